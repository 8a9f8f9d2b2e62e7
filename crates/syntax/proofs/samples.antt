-- Samples: programs, texts and trees, computed.
pub mod MoreRows
pub mod OrderRows
pub mod OuterRows
pub mod RefusedRows
pub mod Rows
pub mod Spelled
pub mod TotalRows
pub mod TypeRows
pub mod ValueRows
pub mod WideRows
