-- Runs of a thread: ticks, memories found and left, contexts.
pub mod Contexts
pub mod Counted
pub mod Further
pub mod InExpressions
pub mod Loops
pub mod MeaningSteady
pub mod MoreFounds
pub mod OneTick
pub mod Preserved
pub mod Steady
pub mod ThreadLaws
pub mod Ticks
