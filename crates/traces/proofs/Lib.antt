-- one step of a loop that adds lines
pub mod Lines
-- one step of the loop that makes columns
pub mod Growing
