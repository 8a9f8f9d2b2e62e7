-- Orders of threads and runs of the source.
pub mod OrderRuns
pub mod RunOrders
