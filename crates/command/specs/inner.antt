-- the program's own refusals
pub mod Refusals
-- the construction of commands
pub mod Made
