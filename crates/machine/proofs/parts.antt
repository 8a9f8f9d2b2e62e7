-- the two shapes that most steps in a transaction leave
pub mod Forms
-- memories stay memories under writes of words
pub mod Memories
-- steps of the code meaning, put one after another
pub mod Meaning
-- how what holds of a part is put together again after its step
pub mod Part
-- a step of one thread keeps what holds of the part of another
pub mod Frame
