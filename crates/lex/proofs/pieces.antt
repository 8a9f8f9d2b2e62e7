-- runs of bytes of one class at the front
pub mod Runs
-- all tokens of one spelling, in one list
pub mod Fixed
-- what a piece is, by its first byte
pub mod Classes
-- how tokens of one spelling and reserved words differ
pub mod Spellings
-- white space, words, comments and lines
pub mod Shapes
-- strings
pub mod Strings
-- constants
pub mod Constants
-- punctuators
pub mod Punctuators
-- lines that begin with `#`
pub mod Directives
