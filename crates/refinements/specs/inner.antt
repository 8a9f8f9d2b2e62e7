-- outcomes compared with a report
pub mod Closest
