-- threads' numbers, one more
mod Numbers
-- numbers that are read word by word
mod OrderWords
-- what is given for an argument
mod Reading
-- the command line is simple
mod Commands
-- words are refused because something is so
mod Refusals
-- numbers of threads that are given
mod Ranges
-- what is given for arguments makes no task
mod Tasks
-- what words define
mod Defining
-- command lines that test files
mod Testing
