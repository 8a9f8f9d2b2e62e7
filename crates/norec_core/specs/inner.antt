-- the attempt of a core with its room, and what the code of its steps keeps true
pub mod Runs
