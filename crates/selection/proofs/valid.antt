-- the begins along a list of instructions
pub mod Begins
-- instructions that are in order where they stand
pub mod Goods
-- lists that become those of a finished code
pub mod Fitting
-- the parts of an expression
pub mod Sounds
-- where the cells of shared variables are
pub mod Shared
-- expressions and conditions
pub mod Expressions
-- assignments and declarations
pub mod Simples
-- parts of a body, with the begins that are open at each place
pub mod Parts
-- statements
pub mod Statements
-- the ways through a function
pub mod Ways
-- functions and programs
pub mod Programs
