-- JSON inside of HTML
mod Escaping
-- tokens written one after another
mod Writing
-- the entries of a state in lists of states
mod Entries
