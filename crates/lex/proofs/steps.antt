-- from what stands behind an offset to what the text has there
pub mod Steps
-- one more piece
pub mod Cuts
-- one more character of a string
pub mod Escapes
