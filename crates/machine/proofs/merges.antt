-- laws of merges: a merge of transactions that took effect follows the history
pub mod Merge
-- what a list of entries that follows the history finds and leaves
pub mod Follow
-- the merge that keeps equals in the order in which they took effect
pub mod Insert
-- lists whose elements stand in another in their order, and insertion into a merge
pub mod Within
-- merges cut in two, and what is put into them
pub mod Splits
-- merges with attempts between that leave what they found
pub mod Idle
