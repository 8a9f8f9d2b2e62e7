-- reading exactly, for any language
pub mod combinators
-- names, types and expressions
pub mod expressions
-- statements and declarations
pub mod statements
-- functions, globals and programs
pub mod items
-- steps of the code
pub mod code
