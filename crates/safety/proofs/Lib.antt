mod NoFault
mod Rows
pub mod CancelsStay
pub mod Closing
pub mod Named
pub mod Found
pub mod Graphs
pub mod Judged
pub mod Greatest
pub mod LeastSet
pub mod Linked
pub mod Opening
pub mod SameNames
pub mod Spread
pub mod Unsafe
pub mod Walks
