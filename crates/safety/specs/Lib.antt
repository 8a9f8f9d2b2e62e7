-- the contract of the call
pub mod Answers
-- the sites of a body, and the program's own values of them
pub mod Sites
pub mod Views
-- which functions and programs are safe
pub mod Safe
pub mod Faults
-- the least set that satisfies given links, and the links of declarations and sites
pub mod Links
pub mod SiteLinks
pub mod Sets
-- laws
pub mod Laws
-- definitions for private functions
pub mod inner
