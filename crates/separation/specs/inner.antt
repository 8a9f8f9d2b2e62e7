-- Definitions for private functions; no public contract cites them.
-- the first demand that is not met
pub mod Unmet
-- the links of touching functions
pub mod TouchingLinks
-- the sites of one item's function
pub mod OwnSites
