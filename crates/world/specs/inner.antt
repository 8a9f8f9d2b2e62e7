-- the invariant of a world, and the possible accesses
pub mod Following
-- the cost of a thread's next step
pub mod Costs
