-- a seat that loads for the reads of its thread
pub mod Seated
-- steps of a worker that are not yet counted
pub mod Stepping
-- loops of workers in progress
pub mod Driving
-- the parts of workers
pub mod Closing
