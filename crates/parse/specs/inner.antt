-- The results of the parser's functions; no public contract cites them.
-- The results of the parser's functions, as functions on lists.
pub mod Reading
-- The results of the parser's functions on expressions, as functions on lists.
pub mod Expressions
-- The results of the parser's functions on statements, as functions on lists.
pub mod Statements
-- The results of the parser's functions on functions and globals, as functions on lists.
pub mod Items
-- The first tokens of an item, and the branches of an if.
pub mod Headings
