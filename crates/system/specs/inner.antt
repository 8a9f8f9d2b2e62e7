-- what was recorded
pub mod Recorded
-- an opened file
pub mod Opened
