-- Reading exactly, for any language: combinators, lists, operators, and what a whole call promises.
-- Tokens with one spelling: keywords and punctuators.
pub mod FixedTokens
-- What it means that a parser reads a language exactly, and how such parsers are put together.
pub mod Exact
-- What cannot begin a phrase is refused at its first token.
pub mod Starts
-- One phrase or another, as the first token says.
pub mod Choices
-- What is read behind a first token that is known.
pub mod Rest
-- What stands behind or before a fixed token, and what may be left out.
pub mod Parts
-- A list of phrases, up to a token that stops it, is read exactly where one phrase is. T: what else may be said of that token.
pub mod Many
-- One or more phrases with commas between, and further ones behind commas, are read exactly where one phrase is.
pub mod Lists
-- Phrases behind commas, and perhaps one comma more, up to a brace, are read exactly where one phrase is.
pub mod Trailing
-- A parser that calls itself at a smaller depth.
pub mod Knot
-- A chain of operators that group to the left is read exactly, where its operands are.
pub mod Chain
-- From an exact parser to what a whole call promises, for any language.
pub mod Theorems
