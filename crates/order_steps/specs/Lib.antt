-- threads of the machine that rest
pub mod Resting
-- orders as lists of steps
pub mod Stepped
