-- Statements and declarations are read exactly.
-- Assignments, steps and values are read exactly.
pub mod Simples
-- Declarations, and the first part of a loop's head, are read exactly.
pub mod Declarations
-- The attribute `outer` of a transaction, and of what cancels it, is read exactly.
pub mod Attributes
-- What statements begin with.
pub mod Leads
-- Statements that hold no others are read exactly.
pub mod Leaves
-- What stands in a block is read exactly where a statement is.
pub mod Entries
-- Transactions, and expressions that begin with one, are read exactly.
pub mod Transactions
-- Statements that have statements in them are read exactly where those are.
pub mod Compounds
-- Statements and blocks are read exactly.
pub mod Stmts
