-- Words are of their types, and memories of their program.
pub mod Memories
pub mod Words
pub mod WordsStay
