-- texts, their tokens and their faults
mod Texts
-- what words define
mod Words
