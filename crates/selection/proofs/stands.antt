-- instructions that stand in a finished code
pub mod Standing
-- what names stand for in a typed program
pub mod Named
-- the types of what is emitted
pub mod Kinds
-- the parts of an expression
pub mod Emitting
-- the parts of a condition
pub mod Conds
-- whole expressions and conditions
pub mod Exprs
-- targets and what goes to them
pub mod Writing
-- assignments and declarations
pub mod Simply
-- statements
pub mod Statements
-- cancels
pub mod Cancelling
-- functions and programs
pub mod Functions
