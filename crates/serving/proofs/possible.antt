-- orders as replays, outcomes as worlds
pub mod Replayed
