-- what expressions and statements do with locals, and how statements end
pub mod locals
-- orders of threads and runs of the source
pub mod ordering
-- runs of a thread: ticks, memories found and left, contexts
pub mod running
-- samples: programs, texts and trees, computed
pub mod samples
-- trees part by part: copies, depths, formats
pub mod trees
-- demands, and what is known of a typed program
pub mod typing
-- words are of their types, and memories of their program
pub mod words
