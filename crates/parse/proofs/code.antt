-- Steps of the code: loops, turns, and what fails where a part fails.
-- Reading a list item by item, as a loop does.
pub mod Turns
-- Loops that begin with an item, and loops over lists of items.
pub mod Loops
-- Lists that end at a fixed token, and lists with commas, as loops read them.
pub mod Braces
-- Loops that read items up to a fixed token, which is read too: each way round them and out of them.
pub mod Rounds
-- What is read within no depth, and within one more than the parts have.
pub mod Within
-- One turn of a chain of operators, as the loop makes it.
pub mod Climbing
-- How the reading of an expression goes on, step by step.
pub mod ExprSteps
-- What is read of a statement whose parts were read.
pub mod Nodes
-- Where the last token ends.
pub mod Ends
-- What is made of something that was read, as what reads it gives.
pub mod Made
