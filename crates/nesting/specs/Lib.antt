-- the state that begins save
pub mod Begins
-- the contracts' view of an attempt's logs and begins
pub mod Nests
-- the inner begins in their lists
pub mod inner
