-- Functions, globals and programs are read exactly.
-- Attributes, and what stands before a function's parameters or behind the first global's name, are read exactly.
pub mod Headers
-- What stands behind a function's name is read exactly.
pub mod Definitions
-- Global variables are read exactly, behind the first one's name.
pub mod Shares
-- Items and programs are read exactly.
pub mod Programs
-- What the whole call promises.
pub mod Sources
