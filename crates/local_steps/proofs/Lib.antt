-- what is known of a value, if there is one
pub mod Known
-- one local step more
mod Onward
-- a sum, a comparison and a jump at the end of a loop's turn
mod Turning
-- local steps keep to their function
pub mod Ways
-- steps over a loop's end
mod Ending
-- what a valid code writes
mod Narrow
