-- tokens lie in their text
pub mod Lies
-- a piece says one thing
pub mod Once
-- an offset has one fault
pub mod Flaws
-- a text is cut in one way
pub mod Ways
