-- the memory in which the threads of a code begin, and the words of its cells
pub mod Codes
-- counts of parts in views, and answers one longer
pub mod Parts
-- lists of steps with what each thread was answered, by the steps of one thread
pub mod Traces
-- what the rule says, from the machine's laws
pub mod Saying
-- what the list of steps that the rule keeps says of order in time
pub mod InTime
-- each access keeps the rule
pub mod Keeps
-- a seat brings its thread's last local steps into the list
pub mod Settles
-- splits, joins and meetings keep the rule
pub mod Moves
-- two seats meet
pub mod Meetings
-- the table as it is opened
pub mod Opens
-- and closed
pub mod Closes
