-- the contract of the call
pub mod Answers
-- which functions touch, and which programs are accepted
pub mod Touching
-- laws
pub mod Laws
-- definitions for private functions
pub mod inner
