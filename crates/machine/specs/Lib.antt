-- a thread, its accesses and its steps
pub mod Threads
-- worlds, their steps, and reachability
pub mod Worlds
-- merges of the records
pub mod Merges
-- worlds explained by a merge
pub mod Explained
-- properties of every list of steps
pub mod Serializable
-- later transactions come after earlier ones
pub mod Strict
-- the results that attempts have computed
pub mod Computes
-- all attempts in one order
pub mod OneOrder
-- how often attempts abort
pub mod Drops
-- a thread that steps alone
pub mod Alone
-- a code's meaning inside a transaction, by an attempt's logs
pub mod Open
-- a thread that runs alone while the others do not step
pub mod Solo
-- threads that rest between their transactions
pub mod Resting
-- turns of threads that rest
pub mod Turns
-- the number of accesses of an undisturbed transaction, by its code's meaning
pub mod Tallies
-- progress of a thread that has the lock
pub mod Holders
-- the meaning of an event for its step
pub mod Events
-- the cells that threads use
pub mod NamedCells
-- the responses that threads received
pub mod Answered
-- responses by traces
pub mod Traces
-- where attempts begin
pub mod Moments
-- the state of a thread in valid code
pub mod Standing
-- a thread as its contracts see it
pub mod States
-- loads for the reads of a thread
pub mod Loads
-- definitions for the proofs only
pub mod inner
