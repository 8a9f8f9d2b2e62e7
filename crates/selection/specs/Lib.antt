-- what a function's name denotes in code, and the lists of a code while it is generated
pub mod Names
pub mod Lists
-- the instructions that are picked for conditions, expressions, assignments and declarations, and statements
pub mod Conditions
pub mod Expressions
pub mod Simples
pub mod Statements
-- the constant operands in loops
pub mod Loops
-- the code that is picked for a program
pub mod Programs
-- theorems on the picked code
pub mod Laws
-- definitions for private functions and proofs only
pub mod inner
