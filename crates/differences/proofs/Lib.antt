-- lists that are the same so far, and lines
mod Firsts
