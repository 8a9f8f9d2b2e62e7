-- formats, and statements by their parts and as parts of a whole
mod Formatted
mod Leaving
mod Nodes
mod Loop
mod Written
mod Within
-- a body as it stands, or one that finds constants preloaded
mod Better
-- functions and items one after another
mod Bodies
mod Faulty
mod Deeper
-- the code of a whole program
mod Whole
-- the locals of parameters
mod Parameters
