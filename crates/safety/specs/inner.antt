-- Definitions for private functions; no public contract cites them.
-- the first demand that is not met
pub mod Unmet
-- the links of unsafe functions
pub mod UnsafeLinks
-- the links of functions that lead to an outer transaction
pub mod OuterLinks
-- the locals at a point
pub mod Known
-- the sites that a traversal adds
pub mod Walks
-- functions by number, with their callers
pub mod Graphs
-- the search for callers
pub mod Closing
-- sets of functions, in the form that the demands use
pub mod Rest
-- the links of items, if only sites give links
pub mod SiteLinks
