-- the observables of a thread
pub mod Outcomes
-- threads whose transactions follow a schedule
pub mod InOrder
-- functions that are evaluated on a memory
pub mod Asked
-- the surroundings of a run
pub mod Frames
-- definitions for private functions
pub mod inner
