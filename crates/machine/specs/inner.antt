-- the invariant of each step
pub mod Invariant
-- a thread as code stores it
pub mod Contexts
-- a thread as code stores it, with the state that loads for its reads
pub mod Inside
-- the responses that a thread of a world has received
pub mod Answered
-- the work at a thread's place
pub mod Doings
