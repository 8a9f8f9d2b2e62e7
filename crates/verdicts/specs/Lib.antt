-- counts of verdicts
pub mod Verdicts
