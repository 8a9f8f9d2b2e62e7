-- a small instruction set
pub mod Samples
-- schedules by shared accesses, and their events
pub mod Replays
-- worked schedules, computed
pub mod Rows
-- the worked codes meet the laws' premises
pub mod Fits
-- how many accesses small transactions make
pub mod Tallied
