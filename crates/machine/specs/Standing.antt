-- The state of a thread in valid code: its frames, its begins that are open there, and the words in hand. Each call of
-- a thread requires it and ensures it, since the thread does not store its code.
use Rattle.std.specs.Prelude.{◌≡◌, ◌<◌, ◌^◌, ℕ, List, [], ◌∷◌, ◌++◌, Option, None, Some, map}
use Rattle.std.specs.List.{AllByRecursion}
use Rattle.syntax.specs.declared.thread_end.Status.{Status}
use Rattle.syntax.specs.declared.thread_end.Status.TheVariants.{Running, Ended as HasEnded, Trapped as HasTrapped}
use Rattle.nesting.specs.Begins.{Saved}
use Rattle.bytecode.specs.Code.{Code, Configuration}
use Rattle.bytecode.specs.Valid.{IsValid}
use Rattle.frames.specs.Open.{MayStand, begin_configuration}
use Rattle.norec_core.specs.declared.step.Phase.{Phase}
use Rattle.norec_core.specs.declared.step.Phase.TheVariants.{ReadsLock, Stores}
use Rattle.norec_core.specs.Attempts.{Attempt, Checkpoint}
use Rattle.machine.specs.Threads.{Thread}

-- what the open begins of an attempt saved, the innermost first
abbrev pub begins_of : {S : Type 0} → Option (Attempt S) → List S
begins_of None = []
begins_of {S} (Some a) = map (λ (k : Checkpoint S). k.saved) a.inner ++ a.saved ∷ []

-- what each of these pairs has for its cell fits a register
abbrev pub HaveWords : List (ℕ × ℕ) → Type 0
HaveWords pairs = AllByRecursion (λ (p : ℕ × ℕ). p.1 < 2 ^ 64) pairs

-- a read has a word in hand that fits a register; a commit that stores is of the outermost transaction
abbrev pub HasInHand : {S : Type 0} → List (Checkpoint S) → Phase → Type 0
HasInHand inner (ReadsLock word) = word < 2 ^ 64
HasInHand inner (Stores i) = inner ≡ []
HasInHand inner _ = Unit {0}

-- every word that an attempt may yet give to a register fits it
pub record GivesRegisterWords {S : Type 0} (a : Attempt S) : Type 0 where
  pub writes : HaveWords a.writes
  pub marks : AllByRecursion (λ (k : Checkpoint S). HaveWords k.writes) a.inner
  pub in_hand : HasInHand a.inner a.phase

abbrev pub GivesWordsIf : {S : Type 0} → Option (Attempt S) → Type 0
GivesWordsIf None = Unit {0}
GivesWordsIf (Some a) = GivesRegisterWords a

-- a running thread's state is valid for these saves of its open begins: they had the configurations of its attempt
pub record Runs (code : Code) (th : Thread Configuration) : Type 0 where
  pub saved : List Saved
  pub stands : MayStand code th.configuration saved
  pub begins : begins_of th.attempt ≡ map (begin_configuration th.configuration) saved
  pub words : GivesWordsIf th.attempt

-- the state of a thread with this status: one that has terminated has no attempt
abbrev pub IsStanding : Code → Thread Configuration → Status → Type 0
IsStanding code th Running = Runs code th
IsStanding code th HasEnded = th.attempt ≡ None
IsStanding code th (HasTrapped cause) = th.attempt ≡ None

-- the thread is one of this code, which is valid
pub record IsThreadOf (code : Code) (th : Thread Configuration) : Type 0 where
  pub valid : IsValid code
  pub stands : IsStanding code th th.status
