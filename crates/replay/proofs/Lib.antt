-- where rows are cut
pub mod Rows
-- the lines of rows, one more at the end
pub mod Lines
-- the words of a seed
pub mod Words
-- the steps that lines name
pub mod Playing
-- schedules of orders
pub mod Spans
-- lines that are written
pub mod Writing
-- what is shown of steps, one more at the end
pub mod Showing
