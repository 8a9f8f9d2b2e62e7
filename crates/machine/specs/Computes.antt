-- The results that attempts have computed, including those that will abort: the code's meaning computes them in the
-- memory of the attempt's moment.
use Rattle.std.specs.Prelude.{◌≡◌, ℕ, List, [], ◌∷◌, ◌++◌, Some}
use Rattle.std.specs.List.{slice_get}
use Rattle.write_log.specs.Overlay.{overlay}
use Rattle.syntax.specs.Behaviours.{Memory, founds_of, lefts_of, last_memory}
use Rattle.bytecode.specs.Effects.{Effect}
use Rattle.bytecode.specs.Sequential.{OpenTransaction, Sequential, thread}
use Rattle.norec_core.specs.Attempts.{Attempt}
use Rattle.machine.specs.Explained.{HasMoment}
use Rattle.machine.specs.Merges.{Entry, IsMerge, run_of}
use Rattle.machine.specs.Worlds.{Part, World}

-- Thread t, run on the memories that its own transactions found in the run and then on this one, reaches exactly its
-- attempt's state: the same registers, frames, place and text, and this memory with the write log over it.
pub record ComputesOn {C : Type 0} (code : C → Effect C) (init : ℕ → C) (es : List Entry) (t : ℕ) (p : Part C)
    (a : Attempt C) (memory : Memory) : Type 0 where
  pub instructions : ℕ
  pub meant : Sequential C
  pub comes : thread code (init t) (founds_of t (run_of es) ++ memory ∷ []) instructions ≡ meant
  pub configuration : meant.configuration ≡ p.thread.configuration
  pub text : meant.text ≡ p.thread.text
  pub lefts : meant.lefts ≡ lefts_of t (run_of es)
  pub within : OpenTransaction C
  pub inside : meant.inside ≡ Some within
  pub found : within.found ≡ memory
  pub sees : within.mem ≡ overlay memory a.writes
  pub kept : within.kept ≡ a.kept

-- the attempt has a moment, and has computed what its code computes there
pub record HasComputed {C : Type 0} (code : C → Effect C) (init : ℕ → C) (m0 : Memory) (es : List Entry) (t : ℕ)
    (p : Part C) (a : Attempt C) : Type 0 where
  pub moment : HasMoment m0 t a.snapshot a.reads es
  pub computes : ComputesOn code init es t p a (last_memory m0 (run_of moment.before))

-- every attempt has a moment in every merge, and has computed what its code computes there
abbrev pub AttemptsCompute : {C : Type 0} → (C → Effect C) → (ℕ → C) → Memory → World C → Type 0
AttemptsCompute {C} code init m0 w = (es : List Entry) → IsMerge w.parts es → (t : ℕ) (p : Part C) (a : Attempt C) →
    slice_get w.parts t ≡ Some p → p.thread.attempt ≡ Some a → HasComputed code init m0 es t p a
