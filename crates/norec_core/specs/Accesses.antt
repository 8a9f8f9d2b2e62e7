-- The accesses of steps: their responses, their costs, and when the lock has no value left.
use Rattle.std.specs.Prelude.{◌≢◌, ◌==◌, ◌-◌, ◌^◌, ℕ, Bool, false}
use Rattle.norec_core.specs.declared.step.Access.{Access}
use Rattle.norec_core.specs.declared.step.Access.TheVariants.{Local, LoadLock, LoadWord, Swap, StoreWord, StoreLock}
use Rattle.norec_core.specs.declared.step.Answer.{Answer}
use Rattle.norec_core.specs.declared.step.Answer.TheVariants.{Done, Value, Won, Lost}

-- the response is one to this access. A lost swap finds a value other than the expected one
abbrev pub IsAnswerTo : Access → Answer → Type 0
IsAnswerTo Local Done = Unit {0}
IsAnswerTo LoadLock (Value n) = Unit {0}
IsAnswerTo (LoadWord a) (Value n) = Unit {0}
IsAnswerTo (Swap from) Won = Unit {0}
IsAnswerTo (Swap from) (Lost n) = n ≢ from
IsAnswerTo (StoreWord a v) Done = Unit {0}
IsAnswerTo (StoreLock n) Done = Unit {0}
IsAnswerTo _ _ = ⊥

-- how many accesses to the lock or the words a step makes: none, or one
abbrev pub cost : Access → ℕ
cost Local = 0
cost _ = 1

-- the access stores a word, or the lock
abbrev pub IsStore : Access → Type 0
IsStore (StoreWord cell word) = Unit {0}
IsStore (StoreLock value) = Unit {0}
IsStore _ = ⊥

-- the last even value of a lock of 64 bits
abbrev pub last_snapshot : ℕ
last_snapshot = 2 ^ 64 - 2

-- a swap from the last even value would leave the lock no value for its release, so the step stops: the sequence is
-- used up
abbrev pub stops : Access → Bool
stops (Swap from) = from == last_snapshot
stops _ = false
