-- what only private functions speak of
pub mod inner
