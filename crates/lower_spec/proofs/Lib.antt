mod Agreement
mod Runs
mod Locals
pub mod Conversions
mod Expressions
mod Statements
mod Turns
mod OuterCancels
mod Prints
mod Flow
pub mod Calls
pub mod Unconverted
mod Sample
