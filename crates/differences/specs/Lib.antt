-- the lines of texts
pub mod Texts
