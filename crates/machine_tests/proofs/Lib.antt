-- where a thread that is carried on may stand
mod Carrying
-- the bounds of the cells of a code's first global
mod Firsts
