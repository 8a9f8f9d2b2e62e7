-- the figures of a picture
pub mod Figures
-- its glyphs
pub mod Glyphs
-- its boxes, and the source text in their titles
pub mod Boxes
-- its arrows
pub mod Arrows
-- all its elements
pub mod Pictures
-- the picture of a replay
pub mod Replayed
-- definitions for private functions alone
pub mod inner
