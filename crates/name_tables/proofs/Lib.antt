-- what a table finds
pub mod Firsts
-- the newest declaration of a name, after one more
pub mod Newest
-- what a scope's numbers say
pub mod Numbered
-- names with what they stand for
pub mod Examples
