-- the number by which a report is found
pub mod Hashed
