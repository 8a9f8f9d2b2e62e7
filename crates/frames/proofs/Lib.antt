-- where instructions lead
mod Leading
-- the begins that are open at a place are reached, and where a way goes on
mod Reached
-- which instructions begin, commit, cancel and return
mod ByWay
-- where threads begin
mod Beginnings
-- words in registers
mod Registers
-- what an operator gives
mod Operators
-- the begins that are open in all frames
mod Levels
-- what a thread of a valid code keeps
mod GoesOn
mod Back
pub mod Keeping
-- which words are a call
mod CallWords
-- what stands at a place, as it is told
mod Telling
-- the frames in one list of registers
mod Laying
-- words that tell frames apart
pub mod Wording
-- the moves, as the frames lie
mod Moves

-- steps of the frames, one after the other
