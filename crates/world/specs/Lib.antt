-- a world as its contracts see it
pub mod Simulations
-- threads that rest between their transactions
pub mod Resting
-- why a world is not opened, or a list of steps not completed
pub mod Stops
-- the report of a world
pub mod Reports
-- what only private functions and proofs cite
pub mod inner
