-- functions that may be called
pub mod Callees
-- fragments of code of which a part is emitted already
pub mod Stretches
