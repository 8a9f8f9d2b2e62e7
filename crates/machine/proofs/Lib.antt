-- what a cancel of several levels leaves of the inner begins
pub mod Levels
-- what holds of one part, and how it is carried over the steps of others
pub mod parts
-- each step of a thread keeps the invariant
pub mod steps
-- merges of the records, and what is put into them
pub mod merges
-- every merge is a run, in the order of time, which later ones extend; the same for programs
pub mod runs
-- single steps: what aborts, what never does, what events say
pub mod single
-- steps that do not stop, and a thread alone
pub mod alone
-- undisturbed transactions, beside their meaning
pub mod tallies
-- what threads were answered, the cells that they use, where attempts begin
pub mod answers
-- a thread as code keeps it makes the machine's steps
pub mod contexts
-- worked schedules, and that their codes meet the premises
pub mod samples
