-- what tables of globals, of functions and of declared names say
pub mod Placing
pub mod Defined
mod Declared
-- how many cells a typed program has
mod CellsFit
