-- the commands, and what each takes
pub mod Line
-- the requests that words make
pub mod Asked
-- command lines that test files
pub mod Tests
-- definitions for private functions and proofs alone
pub mod inner
