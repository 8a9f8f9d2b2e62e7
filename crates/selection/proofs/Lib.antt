-- the instructions of a condition, once it is known where it leads
mod Drafted
-- what follows needs no fewer registers
pub mod Growing
pub mod GrowingStmts
-- a body that finds constants preloaded needs no more registers
mod LeanerExprs
pub mod Leaner
-- what follows makes the lists longer
mod LongerExprs
pub mod Longer
-- what is picked for small programs
mod Samples
-- that the code which is picked stands for the program
pub mod stands
-- that it is valid
pub mod valid
