-- names and the numbers that replace them
pub mod Definitions
-- a text with numbers in their places
pub mod Puts
