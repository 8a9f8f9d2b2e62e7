-- Definitions for private functions; no public contract cites them.
-- the first demand that is not met
pub mod Unmet
-- the kinds of names
pub mod Scopes
pub mod Symbols
pub mod Known
-- the results of checking item by item
pub mod Bodies
pub mod Found
-- formats
pub mod Specifiers
