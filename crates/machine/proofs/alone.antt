-- steps that do not stop: which worlds they lead to
pub mod Unstopped
-- a thread that steps alone does what its meaning does
pub mod Alone
-- a code that uses its cells alone leaves memories
pub mod Lefts
-- what a program that a code means finds alone is memories
pub mod Founds
-- the world of one thread comes to the end of its meaning, by steps that do not stop
pub mod OneThread
-- a thread alone, through its next transaction
pub mod Transaction
-- a thread that steps alone beside others
pub mod Beside
-- in a reached world a thread without an attempt gets on alone
pub mod Calm
-- a thread alone with an attempt open, whose snapshot may be below the lock
pub mod Behind
-- in a reached world a thread with an attempt open drops it once, or goes on
pub mod Ends
