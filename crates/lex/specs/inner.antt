-- the result of one step of the lexer
pub mod Answers
-- a constant by its parts, as it is read
pub mod Constants
-- punctuators by their bytes
pub mod Punctuators
-- where a string ends
pub mod Strings
