-- The content of a report.
use Rattle.std.specs.Prelude.{ℕ, List, Option}
use Rattle.lex.specs.declared.token.Scalar.{Scalar}
pub use Rattle.machine.specs.declared.event.Event.{Event}
pub use Rattle.report.specs.declared.printed.End.{End}

-- a thread: its status, and its output
pub record ThreadShown : Type 0 where
  pub end : End
  pub text : List ℕ

-- a global, with a word for each of its cells
pub record Shown : Type 0 where
  pub name : List ℕ
  pub ty : Scalar
  pub words : List ℕ

-- the events of a replay, with the shared accesses made so far and the thread; the threads; the globals; the holder of
-- the lock
pub record Printed : Type 0 where
  pub events : Option (List (ℕ × ℕ × Event))
  pub threads : List ThreadShown
  pub globals : List Shown
  pub holder : Option ℕ
