-- local steps, and the load of the lock at an outermost begin
pub mod Local
-- loads of the lock and of words, and what is done with their answers
pub mod Loads
-- the swap that takes the lock
pub mod Swap
-- stores of words, and the store that gives the lock back
pub mod Stores
-- each step of the machine keeps the invariant
pub mod PartSteps
-- each step of the machine keeps the invariant, whichever thread makes it, and so does each list of steps
pub mod Worlds
-- a step leads the history on
pub mod Moving
