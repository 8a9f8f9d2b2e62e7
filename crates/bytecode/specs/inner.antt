-- how a function's paths are followed
pub mod Walking
-- the layout of the functions' codes
pub mod Layout
-- how instructions are written in words
pub mod Spelling
-- the invariants of a stored code
pub mod Stored
-- the plain code that a code's words hold
pub mod Words
