-- the checkpoints of lists of saved states and marks
pub mod Checkpoints
