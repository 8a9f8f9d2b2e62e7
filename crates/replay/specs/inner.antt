-- how a row is split
pub mod Rows
-- how lines are written
pub mod Written
-- how lines are played
pub mod Playing
