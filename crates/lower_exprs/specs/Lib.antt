-- the contents of the values that code generation uses: the lists of a code, a program, and the known locals
pub mod Lists
pub mod Views
-- what a failure implies of lists of code
pub mod Limits
-- the results of calls that append code
pub mod Fragments
-- definitions for private functions and proofs only
pub mod inner
