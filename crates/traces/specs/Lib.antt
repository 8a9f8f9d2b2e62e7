-- the content of a trace
pub mod Turns
-- the Rust types as plain ones
pub mod Views
-- the cells that a turn reads and writes
pub mod Marks
-- the names of cells
pub mod Names
-- the columns of a trace
pub mod Columns
-- the text of a trace
pub mod Trace
