-- Turns of threads that rest between their transactions: each is made by one thread alone.
use Rattle.std.specs.Prelude.{◌≡◌, ◌<◌, ℕ, zero, suc, List, [], ◌∷◌, ◌++◌, Some, replicate}
use Rattle.std.specs.List.{slice_get}
use Rattle.syntax.specs.declared.thread_end.Status.TheVariants.{Running}
use Rattle.bytecode.specs.Effects.{Effect}
use Rattle.machine.specs.Resting.{IsThreadAtRest}
use Rattle.machine.specs.Worlds.{Part, World, new_world, run, step}

-- so many steps of one thread: its number, and how many
abbrev pub Span : Type 0
Span = ℕ × ℕ

abbrev pub steps_in : List Span → List ℕ
steps_in [] = []
steps_in (s ∷ spans) = replicate s.1 s.0 ++ steps_in spans

module _ {C : Type 0} (code : C → Effect C) where
  -- thread t can make no further progress by itself
  pub record RestsIn (w : World C) (t : ℕ) : Type 0 where
    pub part : Part C
    pub there : slice_get w.parts t ≡ Some part
    pub rests : IsThreadAtRest code part.thread

  pub record RunsIn (w : World C) (t : ℕ) : Type 0 where
    pub part : Part C
    pub there : slice_get w.parts t ≡ Some part
    pub running : part.thread.status ≡ Running

  -- before each of the next n steps of thread t alone, it is not at rest
  abbrev pub GoesOnFor : World C → (t n : ℕ) → Type 0
  GoesOnFor w t n = (m : ℕ) → m < n → RestsIn (run code (replicate m t) w) t → ⊥

  -- n steps of thread t alone lead to its first state at rest
  pub record RestsAfter (w : World C) (t n : ℕ) : Type 0 where
    pub first : GoesOnFor w t n
    pub rests : RestsIn (run code (replicate n t) w) t

  -- A turn of a thread at rest: if it runs, the begin of its transaction and all steps until it rests again. A thread
  -- that has terminated makes none.
  abbrev pub IsTurnOf : World C → (t n : ℕ) → Type 0
  IsTurnOf w t zero = RunsIn w t → ⊥
  IsTurnOf w t (suc n) = RunsIn w t × RestsAfter (step code w t) t n

  -- each of this many threads, from this one on, is brought to rest
  abbrev pub AreBegun : World C → (t count : ℕ) → List Span → Type 0
  AreBegun w t zero spans = spans ≡ []
  AreBegun w t (suc count) spans =
      (n : ℕ) × (rest : List Span) × (spans ≡ (t, n) ∷ rest) × RestsAfter w t n
      × AreBegun (run code (replicate n t) w) (suc t) count rest

  -- a turn for each entry of an order
  abbrev pub AreTurns : World C → (order : List ℕ) → List Span → Type 0
  AreTurns w [] spans = spans ≡ []
  AreTurns w (t ∷ order) spans =
      (n : ℕ) × (rest : List Span) × (spans ≡ (t, n) ∷ rest) × IsTurnOf w t n
      × AreTurns (run code (replicate n t) w) order rest

  -- from the new world on, each thread is brought to rest, and then takes its turns of the order
  pub record AreSpansOf (init : ℕ → C) (m0 : List ℕ) (threads : ℕ) (order : List ℕ) (spans : List Span) : Type 0 where
    pub begun : List Span
    pub turns : List Span
    pub begins : AreBegun (new_world init m0 threads) 0 threads begun
    pub takes : AreTurns (run code (steps_in begun) (new_world init m0 threads)) order turns
    pub are : spans ≡ begun ++ turns
