-- What expressions and statements do with locals, and how statements end.
pub mod Ends
pub mod ExactLocals
pub mod Expressions
pub mod OlderLocals
