-- the checkpoints after a begin, a commit and a cancel
pub mod CheckpointLists
-- a cancel of several begins
pub mod Cancelling
