-- the parameters of a table of words
pub mod Setup
-- the knowledge of a seat of the table
pub mod Views
-- the invariant of the table, and the response of an access
pub mod Rule
-- the rule's claims, in terms of runs
pub mod Saying
-- definitions for private functions and proofs only
pub mod inner
