-- the shapes that pieces have, by their first byte, and the longest at an offset
pub mod pieces
-- each step of the lexer, in the text that it reads
pub mod steps
-- a text has one list of tokens or one first fault
pub mod unique
-- texts with their tokens
pub mod Examples
