-- a thread's frames as contracts see them
pub mod Stack
-- the next action of a thread, at its place
pub mod Doings
-- the possible configurations of a code's thread, and how it returns to a begin
pub mod Open
-- words that distinguish frames
pub mod Words
-- definitions for private functions and proofs only
pub mod inner
