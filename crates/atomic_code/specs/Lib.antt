-- a thread, and the thread of the code's semantics that it represents
pub mod Threads
-- a thread that is resumed
pub mod Carried
-- observations of a whole thread
pub mod Whole
-- threads at rest
pub mod Resting
-- definitions for private functions and proofs only
pub mod inner
