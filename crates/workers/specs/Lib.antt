-- the contracts' view of halls, workers and threads of closed halls
pub mod Seen
-- the work that a worker has done
pub mod Works
-- workers of a hall
pub mod Workers
-- why a hall is not opened
pub mod Opening
-- the result of closing a hall
pub mod Closing
-- workers after their loops, and the report of a run of all threads
pub mod Driving
-- definitions for private functions and proofs only
pub mod inner
