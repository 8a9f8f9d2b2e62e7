-- the contract of the call
pub mod Answers
-- the items of a block
pub mod BlockItems
-- definitions for private functions
pub mod inner
