-- Threads of the machine that rest between their transactions.
use Rattle.std.specs.Prelude.{◌≡◌, ◌%◌, true, List, [], ◌∷◌, None}
use Rattle.syntax.specs.Behaviours.{Memory}
use Rattle.bytecode.specs.Effects.{Effect}
use Rattle.bytecode.specs.Sequential.{Sequential}
use Rattle.machine.specs.Resting.{IsAtBegin}
use Rattle.machine.specs.Solo.{outside_thread}
use Rattle.machine.specs.Threads.{Thread}
use Rattle.machine.specs.Worlds.{Part, World}
use Rattle.states.specs.Rests.{IsAtRest}

module _ {C : Type 0} (code : C → Effect C) where
  -- the machine's thread has no attempt, and is where the code's thread rests; one that needs a memory is at a begin
  pub record RestsAs (k : Sequential C) (th : Thread C) : Type 0 where
    pub rests : IsAtRest k
    pub outside : k.inside ≡ None
    pub begins : k.wants ≡ true → IsAtBegin code k.configuration k.status
    pub thread : th ≡ outside_thread k.configuration k.text k.status

  abbrev pub AllRestAs : List (Sequential C) → List (Part C) → Type 0
  AllRestAs [] [] = Unit {0}
  AllRestAs (k ∷ ks) (p ∷ ps) = RestsAs k p.thread × AllRestAs ks ps
  AllRestAs _ _ = ⊥

  -- the lock is free, the words are the memory, and each thread rests
  pub record WorldRests (m : Memory) (ks : List (Sequential C)) (w : World C) : Type 0 where
    pub even : w.lock % 2 ≡ 0
    pub memory : w.words ≡ m
    pub parts : AllRestAs ks w.parts
