-- outcomes that show what others do
pub mod ShownBy
-- the text that reports them
pub mod Told
-- outcomes that have a report
pub mod Admitted
-- definitions for private functions alone
pub mod inner
