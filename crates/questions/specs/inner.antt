-- a question that was found
pub mod Found
