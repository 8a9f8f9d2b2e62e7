-- the lines of a listing, and characters that stand for themselves in it
mod Lines
mod Escaping
-- arrivals at places as a table of innermost open begins, what a visit does to it, and the begins round a begin
pub mod Tables
mod Arrivals
mod Meets
mod Rounds
-- where instructions lead, what the walk over a function's ways keeps, and how it goes on, fails, begins and ends
pub mod Leads
mod Walks
mod Goes
mod Fails
mod Ends
mod Answering
-- the operator that an instruction is
mod Operators
-- what an instruction names
mod Callees
-- how functions lie, and what a code is asked for
pub mod LaidOut
mod Names
mod Each
-- words that spell instructions, what their kinds say of loops' ends, and flat code
mod Spelled
mod LoopEnds
mod FlatCodes
-- how the words of a code are read
mod Stored
-- what a valid code reads and writes
pub mod Fits
pub mod Cells
mod Widths
