-- a step of an undisturbed transaction, beside the meaning's instruction and its tally
pub mod Tallying
-- undisturbed steps from a begin on
pub mod Spans
