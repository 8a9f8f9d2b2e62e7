-- programs as plain trees, the meaning of the Rust trees, and how deep they are
pub mod Tree
pub mod Views
pub mod Depth
-- numbers, what names denote, the types of expressions, and formats with their directives
pub mod Numbers
pub mod Names
pub mod Types
pub mod Formats
pub mod FormatDirectives
-- the rules of types, and the order of faults
pub mod Typing
-- the report of a violated rule
pub mod Violations
-- the behaviour of threads and their states in a run, for source and code alike
pub mod Behaviours
-- the primitives of the meaning, and the meaning of expressions, statements, calls, threads and orders of threads
pub mod Actions
pub mod Meaning
pub mod Threads
pub mod Orders
-- theorems on the meaning
pub mod Laws
pub mod ScopeLaws
pub mod OrderLaws
-- which tokens spell a program
pub mod Phrases
pub mod Grammar
