-- look-ups among locals
mod Lookup
-- fragments of code one behind the other
pub mod Adding
-- expressions by their parts: arguments, values one after another, nodes, and parts of a whole
mod Handed
mod Rows
mod Nodes
mod Conditional
mod Within
mod Operating
-- assignments and declarations
mod Assigning
mod Changing
mod Declared
