-- a thread under the moves of its frames
mod Moves
-- memories under writes
mod Memories
-- what each instruction comes to
mod Making
-- the same, of what each function leaves
mod Answering
-- many instructions
mod Counting
-- a thread that is carried on
mod Carrying
-- threads of a code
mod Threads
-- with more to find, and with some left before
mod Growing
-- a whole thread
mod Wholes
-- inner transactions that are closed
mod Closing
-- threads that rest
mod Resting
