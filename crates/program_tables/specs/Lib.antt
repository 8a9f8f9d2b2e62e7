-- the functions of a program that have a body, by their names and numbers
pub mod Functions
-- the contents of its tables' entries
pub mod Entries
-- the program of the tables
pub mod Views
-- definitions for private functions, proofs and the tables' invariants only
pub mod inner
