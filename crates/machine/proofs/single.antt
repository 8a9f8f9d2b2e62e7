-- why an attempt is dropped
pub mod Aborts
-- a thread that has the lock is never dropped
pub mod Holders
-- it has the lock until its transaction takes effect
pub mod Locked
-- what an event says of the step that it is told of
pub mod Events
