-- the constants that are operands in a function's loops, as collected so far
pub mod Looped
-- formats, directive by directive
pub mod Formats
-- why a part gets no code
pub mod Parts
