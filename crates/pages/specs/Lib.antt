-- JSON inside of HTML
pub mod Escaped
-- what a page shows
pub mod Content
-- its JSON, and the page
pub mod Data
