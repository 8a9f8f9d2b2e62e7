-- outcomes that show what others do
mod Among
-- pieces of a text
mod Pieces
-- outcomes that are compared with a report
mod Nearest
