-- the layout of a thread's frames in one list of registers
pub mod Laid
-- the action of an instruction
pub mod Outcomes
