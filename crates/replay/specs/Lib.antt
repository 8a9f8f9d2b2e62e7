-- schedules as text
pub mod Schedules
-- schedules from orders
pub mod Turns
-- schedules from seeds
pub mod Seeds
-- the steps that a schedule names, and the report of a replay
pub mod Replays
-- definitions for private functions and proofs only
pub mod inner
