-- where local steps pause
pub mod Paused
-- the ends of loop iterations, executed at once
pub mod Turns
-- writes to cells of 32 bits
pub mod Narrow
-- the meaning of a flow, and the registers that an instruction names
pub mod Flows
