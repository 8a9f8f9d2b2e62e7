-- The responses that a thread of a world has received.
use Rattle.std.specs.Prelude.{◌≡◌, ◌⊎◌, ℕ, List, [], ◌∷◌}
use Rattle.std.specs.Prelude.{Some}
use Rattle.std.specs.List.{slice_get}
use Rattle.bytecode.specs.Effects.{Effect}
use Rattle.norec_core.specs.declared.step.Access.TheVariants.{LoadLock}
use Rattle.norec_core.specs.declared.step.Answer.TheVariants.{Value}
use Rattle.machine.specs.Worlds.{Part, World}
use Rattle.machine.specs.Answered.{Heard, Answered}

-- in some world that steps without a stop lead to, the thread with this number has this part and these responses
pub record IsPartOf {C : Type 0} (code : C → Effect C) (init : ℕ → C) (m0 : List ℕ) (threads number : ℕ) (p : Part C)
    (hs : List Heard) : Type 0 where
  pub world : World C
  pub heard : List (List Heard)
  pub answered : Answered code init m0 threads world heard
  pub part : slice_get world.parts number ≡ Some p
  pub answers : slice_get heard number ≡ Some hs

-- one of these responses is this lock value, to a load
abbrev pub HasLoad : ℕ → List Heard → Type 0
HasLoad n [] = ⊥
HasLoad n (h ∷ hs) = ((h.access ≡ LoadLock) × (h.answer ≡ Value n)) ⊎ HasLoad n hs
