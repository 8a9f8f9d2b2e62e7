-- Definitions for private functions; no public contract cites them.
-- the value that two registers encode
pub mod Word
-- the state of a thread of the source, and the meaning of its answers
pub mod SourceThread
-- how a call begins
pub mod Calls
-- the effects of the trees
pub mod Does
-- printing a format byte by byte
pub mod Printing
-- threads that take turns
pub mod Turns
-- a thread's continuation
pub mod Going
-- a thread's continuation, as the code represents it
pub mod Left
-- the current state of a thread
pub mod Standing
