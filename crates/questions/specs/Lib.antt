-- the questions of a source, and the answers that they expect
pub mod Questions
-- definitions for private functions alone
pub mod inner
