-- local steps: those that work on the thread's own registers and place
pub mod Local
-- reads and writes of cells between local steps
pub mod Cells
-- definitions for private functions and proofs only
pub mod inner
