-- A step leads the history on.
use Rattle.std.proofs.Common.{◌≡◌, ◌≤◌, ℕ, List, Option, None, Some, refl, sym, subst, slice_get, arith}
use Rattle.bytecode.specs.Effects.{Effect, FitsCells}
use Rattle.machine.specs.inner.Invariant.{History, Invariant, Moves, StepOk}
use Rattle.machine.specs.Threads.{access, step_with}
use Rattle.machine.specs.Worlds.{Part, World, answer, lock_after, part_after, step, step_of, words_after}
use Rattle.machine.proofs.parts.Part.{moves_refl}
use Rattle.machine.proofs.steps.PartSteps.{part_step}
use Rattle.machine.proofs.steps.Worlds.{changed}

module _ {C : Type 0} (code : C → Effect C) (init : ℕ → C) (bounds : List ℕ) (m0 : List ℕ) (fits : FitsCells code bounds) (w : World C) (h : History) (t : ℕ) (v : Invariant code bounds init m0 h w) where
  pub step_moves : (k : History) × Invariant code bounds init m0 k (step code w t) × Moves t h k
  step_moves = at (slice_get w.parts t) refl
    where
      at : (o : Option (Part C)) → slice_get w.parts t ≡ o → (k : History) × Invariant code bounds init m0 k (step_of code w t o) × Moves t h k
      at None e = (h, v, moves_refl t h)
      at (Some p) e =
          let a = access code p.thread in
          let made = part_step code bounds t (init t) h w.words fits v.history p (v.parts t p e) in
          let moved = subst (λ l. StepOk code bounds t (init t) h (lock_after l a) (words_after w.words a) (part_after w.words p (step_with code p.thread (answer l w.words a)))) (sym v.lock) made in
          (moved.after, changed code bounds init m0 fits w h t p (part_after w.words p (step_with code p.thread (answer w.lock w.words a))) (lock_after w.lock a) (words_after w.words a) e v moved, moved.moves)

  -- the lock does not fall
  pub step_lock : w.lock ≤ (step code w t).lock
  step_lock =
      let s = step_moves in
      let up = s.2.lock in
      let was : w.lock ≡ h.lock = v.lock in
      let is : (step code w t).lock ≡ s.0.lock = s.1.lock in
      omega (arith, up, was, is)
