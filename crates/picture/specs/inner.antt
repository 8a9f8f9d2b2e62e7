-- the Rust types as plain ones
pub mod Views
