-- Definitions for private functions, proofs and the tables' invariants only.
-- when a table belongs to a program
pub mod Tables
