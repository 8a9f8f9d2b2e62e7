-- which instructions implement expressions and conditions
pub mod Expressions
-- which instructions implement statements
pub mod Statements
-- which code is a lowering of a program
pub mod Programs
-- when a code means a program
pub mod Means
-- theorems on lowered code
pub mod Laws
-- definitions for private functions and proofs only
pub mod inner
