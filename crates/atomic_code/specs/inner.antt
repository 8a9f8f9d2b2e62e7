-- the outcome of one instruction
pub mod Making
-- the outcome of a resumed thread
pub mod Carrying
-- a whole thread between two of its transactions
pub mod Standing
