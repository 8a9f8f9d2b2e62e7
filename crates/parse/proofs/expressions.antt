-- Names, types and expressions are read exactly.
-- Names and types are read exactly.
pub mod Scalars
-- What an expression begins with, what it covers, and what may follow it.
pub mod Wholes
-- Operands are read exactly, where the expressions in them are.
pub mod Operands
-- Expressions are read exactly: operands, operators on their levels, and conditionals above them.
pub mod Levels
