-- an attempt's logs name cells of the memory alone, so a thread loads and stores cells alone
pub mod NamedCells
-- a step whose access gives no value sets no snapshot, so a local step depends on the thread's part alone
pub mod Quiet
-- the steps of a world in which each thread's answers are recorded, one thread at a time
pub mod Answering
-- what a thread was answered: the lock values never fall, and each word answered is one that a place of the run has or that
pub mod Hearing
-- what each world has that steps which do not stop lead to, with what each thread was answered
pub mod Reached
-- in every world that a list of steps leads to, threads use cells alone
pub mod Cells
-- the worlds that steps which do not stop lead to are those of the traces that run on
pub mod Traces
-- where the moment of an attempt stands
pub mod Moments
-- an attempt keeps its first snapshot, which was answered to a load of the lock when it began
pub mod Firsts
