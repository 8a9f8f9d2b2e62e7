-- The content of a trace: one turn of a thread after another.
use Rattle.std.specs.Prelude.{ℕ, Bool, List, Option}
use Rattle.lex.specs.declared.token.Scalar.{Scalar}
use Rattle.syntax.specs.declared.thread_end.Status.{Status}
pub use Rattle.traces.specs.declared.turn.Fold.{Fold}
pub use Rattle.traces.specs.declared.turn.Mark.{Mark}

-- a global: its name, the type of its cells, and their number if it is an array
pub record Named : Type 0 where
  pub name : List ℕ
  pub ty : Scalar
  pub length : Option ℕ

-- a turn: its thread, whether that had terminated before, whether its transaction was cancelled, the cells that it reads or
-- writes, the text that it prints, the thread's status after it, where its transaction is in the source, the first words
-- of it there, and the turns that end with it and come again, if they do
pub record TurnShown : Type 0 where
  pub thread : ℕ
  pub is_idle : Bool
  pub is_cancelled : Bool
  pub marks : List Mark
  pub printed : List ℕ
  pub status : Status
  pub at : List ℕ
  pub words : List ℕ
  pub fold : Option Fold

-- a thread after the last turn: its status, and words that tell where it is
pub record ThreadAt : Type 0 where
  pub status : Status
  pub at : List ℕ
