pub mod Floors
pub mod Parts
