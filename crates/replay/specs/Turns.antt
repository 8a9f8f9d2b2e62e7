-- Schedules from orders: in each line a thread makes a whole transaction, and the other threads do not step.
use Rattle.std.specs.Prelude.{◌≡◌, ℕ, false, List, map}
use Rattle.bytecode.specs.Beginning.{beginning}
use Rattle.bytecode.specs.Code.{Code, effect}
use Rattle.bytecode.specs.Initial.{initial_of}
use Rattle.machine.specs.Turns.{AreSpansOf, Span}
use Rattle.replay.specs.declared.line.Line.{Line}

-- this many steps of one thread
abbrev pub line_of : Span → Line
line_of s = record { thread = s.0; count = s.1; accesses = false }

-- the lines of an order: each thread is brought to rest, and then takes its turns
pub record AreLinesOfOrder (code : Code) (threads : ℕ) (order : List ℕ) (found : List Line) : Type 0 where
  pub spans : List Span
  pub turns : AreSpansOf (effect code) (beginning code) (initial_of code) threads order spans
  pub found_is : found ≡ map line_of spans
