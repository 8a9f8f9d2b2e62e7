-- A whole thread between two of its transactions.
use Rattle.std.specs.Prelude.{◌≡◌, ◌≤◌, ℕ, false, List, length, drop, None}
use Rattle.syntax.specs.declared.thread_end.Status.TheVariants.{Running}
use Rattle.syntax.specs.Behaviours.{Memory}
use Rattle.bytecode.specs.Code.{Code, effect}
use Rattle.bytecode.specs.Beginning.{beginning}
use Rattle.bytecode.specs.Sequential.{start, steps}
use Rattle.atomic_code.specs.Threads.{AtomicThread, RunsAtomically, meaning_thread}

-- after this many instructions the thread has left these memories, and is outside transactions
pub record HasComeTo (code : Code) (t : ℕ) (founds : List Memory) (most made : ℕ) (lefts : List Memory)
    (k : AtomicThread)
    : Type 0 where
  pub few : made ≤ most
  pub does : steps (effect code) made (start (beginning code t) founds)
      ≡ meaning_thread code (drop (length lefts) founds) lefts false k
  pub outside : k.open_in ≡ None
  pub running : k.status ≡ Running
  pub runs : RunsAtomically code k
