-- A thread that has the lock is never dropped.
use Rattle.std.proofs.Common.{◌≡◌, ℕ, Bool, true, false, List, Option, None, Some, refl, sym, ◌∙◌, subst}
use Rattle.syntax.specs.Behaviours.{IsMemory}
use Rattle.bytecode.specs.Effects.{Effect, FitsCells}
use Rattle.norec_core.specs.Attempts.{Attempt}
use Rattle.norec_core.specs.declared.step.Phase.TheVariants.{ValidatesEntry}
use Rattle.machine.specs.Explained.{has_lock}
use Rattle.machine.specs.inner.Invariant.{History, InHand, Now}
use Rattle.machine.specs.Serializable.{HasChanged, HoldersGoOn, world_after}
use Rattle.machine.specs.Worlds.{new_world}
use Rattle.machine.proofs.single.Aborts.{abort_reason}
use Rattle.machine.proofs.runs.Serializable.{new_invariant, start_of}
use Rattle.machine.proofs.steps.Worlds.{changed, run_invariant}

module _ {C : Type 0} (code : C → Effect C) (init : ℕ → C) (bounds : List ℕ) (m0 : List ℕ) (is_memory : IsMemory bounds m0) (fits : FitsCells code bounds) where
  -- validation is made without the lock
  unlocked : (h : History) (c : C) (a : Attempt C) (time i : ℕ) → a.phase ≡ ValidatesEntry time i → InHand code h a c a.phase → has_lock a.kept a.phase ≡ true → ⊥
  unlocked h c a time i ph hand held = at a.kept refl (subst (InHand code h a c) ph hand).0 (subst (λ q. has_lock a.kept q ≡ true) ph held)
    where
      at : (kept : Bool) → a.kept ≡ kept → a.kept ≡ false → has_lock kept (ValidatesEntry time i) ≡ true → ⊥
      at true e free l = let x : true ≡ false = sym e ∙ free in cc
      at false e free l = cc

  pub never_dropped : (threads : ℕ) (ts : List ℕ) → HoldersGoOn code (world_after code init m0 threads ts)
  never_dropped threads ts t p a e has gone none =
      let r = run_invariant code bounds init m0 fits ts (new_world init m0 threads) (start_of m0) (new_invariant code init bounds m0 is_memory threads) in
      let w = world_after code init m0 threads ts in
      at r.0 p.thread.attempt has.0 (r.1.parts t p e).now (abort_reason code p.thread a w.lock w.words has.0 gone none)
    where
      at : (h : History) (o : Option (Attempt C)) → o ≡ Some a → Now code bounds h t (init t) p.records p.base p.thread o → HasChanged a (world_after code init m0 threads ts).words → ⊥
      at h None f n changed = let x : None ≡ Some a = f in cc
      at h (Some b) f n changed =
          let same : b ≡ a = cc in
          unlocked h p.thread.configuration a changed.time changed.i changed.phase (subst (λ (x : Attempt C). InHand code h x p.thread.configuration x.phase) same n.in_hand) has.1
