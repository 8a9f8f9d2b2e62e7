-- what words are as XML wants them
mod Escaped
-- the loops that draw
mod Drawn
