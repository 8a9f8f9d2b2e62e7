pub mod Numbers
pub mod Maps
