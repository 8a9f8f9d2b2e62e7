-- what a step leaves of a worker
pub mod Turns
-- many local steps of a worker
pub mod Resting
-- its thread stands in a run, as it is now
pub mod Standing
-- what a worker does goes on from what it did
pub mod Going
-- two workers meet
pub mod Meetings
-- the hall as it is opened
pub mod Opens
-- what the workers of a hall add up to when it is closed
pub mod Closings
-- lists of workers, handles and results, one longer or one shorter
pub mod Drives
-- numbers of workers, handles and results, as they are moved from one list to another
pub mod Numbers
-- what a run of all threads reports
pub mod Ran
-- what a thread begins after a meeting
pub mod Later
-- both steps of a read
pub mod Loading
-- accesses of validation and of a begin that waits
pub mod Waiting
-- what is begun after a meeting stands behind all that had taken effect by then
pub mod Behind
-- why a step was not made
pub mod Stopping
-- which steps may want memory
pub mod Wanting
