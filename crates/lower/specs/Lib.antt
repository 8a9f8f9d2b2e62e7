-- a fault's number and source position
pub mod Answers
-- transactions that are nested in too many others
pub mod Nested
-- limits of code that are exceeded
pub mod Limits
-- why no code is returned
pub mod Faults
-- definitions for private functions and proofs only
pub mod inner
