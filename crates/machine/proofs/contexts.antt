-- words of cells fit registers
pub mod Words
-- what a step of the core does with begins and words
pub mod Operations
-- what a thread's context shows
pub mod Seen
-- where the operations of a context lead
pub mod Steps
-- each step of the core makes the machine's step
pub mod Makes
-- each step of the thread's own makes the machine's step
pub mod Work
-- what a context asks of the core
pub mod Asking
-- what the calls of a thread owe
pub mod Calls
-- many local steps of a context are as many of the machine's
pub mod Advancing
-- a read that loads its word and then the lock
pub mod Reading
-- steps of a thread that runs, with what loads for its reads
pub mod Inside
-- a commit that swaps the lock and stores, and the load of an outermost begin
pub mod Committing
-- what a thread leaves undone where it makes steps by itself
pub mod Left
-- validation
pub mod Validating
-- where no store and no comparison comes next
pub mod Nexts
-- which steps may want memory
pub mod Wanting
-- where a thread rests
pub mod Resting
