-- What the bodies keep; no public contract cites it.
-- where the pairs stand, by cell
pub mod Order
-- what going back undoes
pub mod Journal
