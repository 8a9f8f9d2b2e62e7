-- the memory in which the threads of a code begin, and the words of its cells
pub mod Cells
-- a world before any step
pub mod Opening
-- a world's next step
pub mod Stepping
-- threads that rest
pub mod Resting
-- what a report shows of the threads
pub mod Shown
