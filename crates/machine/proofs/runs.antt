-- by the invariant each merge is a run in which every thread stands
pub mod Explained
-- what attempts have computed
pub mod Computes
-- how often attempts are dropped
pub mod Drops
-- the main theorem: from the new world every list of steps is serializable
pub mod Serializable
-- an attempt that goes on keeps its first snapshot, and what takes effect has its last one
pub mod Order
-- order in time, over whole lists of steps
pub mod InTime
-- all attempts in one order
pub mod OneOrder
-- what a thread begins later stands behind all that has taken effect
pub mod Strict
-- the run of more steps extends the run of fewer
pub mod Extended
-- what is said of a code holds of every program that it means
pub mod Programs
