-- a turn is steps of its thread alone
pub mod Turns
-- orders of turns are lists of steps
pub mod Ordering
-- turns of an order are determined
pub mod Determined
-- orders of the source are orders of turns
pub mod Sourced
