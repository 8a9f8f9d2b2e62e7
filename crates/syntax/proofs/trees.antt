-- Trees part by part: copies, depths, formats.
pub mod Depths
pub mod FormatDirectives
pub mod Pushes
pub mod Seen
pub mod Signs
