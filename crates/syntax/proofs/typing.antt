-- Demands, and what is known of a typed program.
pub mod Called
pub mod Demands
pub mod Fits
pub mod Items
pub mod TypedParts
pub mod ValueTypes
