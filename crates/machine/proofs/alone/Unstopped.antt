-- Steps that do not stop: which worlds they lead to.
use Rattle.std.proofs.Common.{◌≡◌, ◌≢◌, ◌<◌, ◌≤◌, ◌+◌, ◌-◌, ◌^◌, ◌==◌, ◌⊎◌, inl, inr, ℕ, Bool, true, false, cond, List, [], ◌∷◌, ◌++◌, Option, None, Some, refl, sym, ◌∙◌, ap, subst, slice_get, arith}
use Rattle.std.proofs.lemmas.Bool.{eqb-true}
use Rattle.std.proofs.lemmas.Bool.Decides.{eqb_tells}
use Rattle.syntax.specs.declared.thread_end.Status.{Status}
use Rattle.syntax.specs.Behaviours.{IsMemory}
use Rattle.syntax.specs.declared.thread_end.Status.TheVariants.{Running}
use Rattle.write_log.specs.Overlay.{overlay_word}
use Rattle.bytecode.specs.Effects.{Effect, FitsCells}
use Rattle.bytecode.specs.Effects.Effect.{Begin}
use Rattle.norec_core.specs.Attempts.{Attempt, Checkpoint}
use Rattle.norec_core.specs.Phases.{commit_access, entry_access, operation_access, phase_access, read_access, store_access}
use Rattle.norec_core.specs.declared.step.Access.{Access}
use Rattle.norec_core.specs.declared.step.Access.TheVariants.{Local, StoreLock, Swap}
use Rattle.norec_core.specs.declared.step.Op.{Op}
use Rattle.norec_core.specs.declared.step.Phase.{Phase}
use Rattle.norec_core.specs.declared.step.Phase.TheVariants.{AtOperation, ReadsLock, Stores, ValidatesEntry, ValidatesTime}
use Rattle.machine.specs.inner.Invariant.{History, Invariant, Now, PartOk}
use Rattle.machine.specs.Serializable.{world_after}
use Rattle.machine.specs.Threads.{access, access_of, inside_access, op_of, outside_access}
use Rattle.machine.specs.Worlds.{Part, Reached, World, lock_after, new_world, run, step, step_of}
use Rattle.norec_core.specs.Accesses.{stops, last_snapshot}
use Rattle.machine.proofs.parts.Frame.{lock_bounds}
use Rattle.machine.proofs.steps.PartSteps.{part_step}
use Rattle.machine.proofs.steps.Worlds.{step_invariant}
use Rattle.norec_core.specs.declared.step.Op.TheVariants as op

-- a swap is from the snapshot
module _ {C : Type 0} (a : Attempt C) (from : ℕ) where
  read_swaps : (ad : ℕ) (o : Option ℕ) → read_access ad o ≡ Swap from → from ≡ a.snapshot
  read_swaps ad None e = absurd (cc)
  read_swaps ad (Some v) e = absurd (cc)

  entry_swaps : (o : Option (ℕ × ℕ)) → entry_access o ≡ Swap from → from ≡ a.snapshot
  entry_swaps None e = absurd (cc)
  entry_swaps (Some q) e = absurd (cc)

  store_swaps : (o : Option (ℕ × ℕ)) → store_access a.snapshot o ≡ Swap from → from ≡ a.snapshot
  store_swaps None e = absurd (cc)
  store_swaps (Some q) e = absurd (cc)

  commit_swaps : (inner : List (Checkpoint C)) (kept : Bool) (ws : List (ℕ × ℕ)) → commit_access a inner kept ws ≡ Swap from → from ≡ a.snapshot
  commit_swaps [] true ws e = store_swaps (slice_get ws 0) e
  commit_swaps [] false [] e = absurd (cc)
  commit_swaps [] false (q ∷ qs) e = cc
  commit_swaps (l ∷ ls) kept ws e = absurd (cc)

  irrevocable_swaps : (kept : Bool) → cond kept Local (Swap a.snapshot) ≡ Swap from → from ≡ a.snapshot
  irrevocable_swaps true e = absurd (cc)
  irrevocable_swaps false e = cc

  release_swaps : (kept : Bool) → cond kept (StoreLock (a.snapshot + 2)) Local ≡ Swap from → from ≡ a.snapshot
  release_swaps true e = absurd (cc)
  release_swaps false e = absurd (cc)

  operation_swaps : (o : Op) → operation_access a o ≡ Swap from → from ≡ a.snapshot
  operation_swaps op.Begin e = absurd (cc)
  operation_swaps (op.Read ad) e = read_swaps ad (overlay_word ad a.writes) e
  operation_swaps (op.Write ad v) e = absurd (cc)
  operation_swaps op.Commit e = commit_swaps a.inner a.kept a.writes e
  operation_swaps op.Cancel e = absurd (cc)
  operation_swaps (op.CancelOuter levels) e = absurd (cc)
  operation_swaps op.Irrevocable e = irrevocable_swaps a.kept e
  operation_swaps op.Release e = release_swaps a.kept e

  phase_swaps : (q : Phase) (o : Op) → phase_access a q o ≡ Swap from → from ≡ a.snapshot
  phase_swaps AtOperation o e = operation_swaps o e
  phase_swaps (ReadsLock v) o e = absurd (cc)
  phase_swaps ValidatesTime o e = absurd (cc)
  phase_swaps (ValidatesEntry time i) o e = entry_swaps (slice_get a.reads i) e
  phase_swaps (Stores i) o e = store_swaps (slice_get a.writes i) e

  pub inside_swaps : (o : Option Op) → inside_access a o ≡ Swap from → from ≡ a.snapshot
  inside_swaps None e = absurd (cc)
  inside_swaps (Some o) e = phase_swaps a.phase o e

pub outside_swaps : {C : Type 0} (s : Status) (x : Effect C) (from : ℕ) {P : Type 0} → outside_access s x ≡ Swap from → P
outside_swaps Running (Begin c d) from e = absurd (cc)
outside_swaps s x from e = absurd (cc)

-- only a swap stops
stop_swaps : (x : Access) → stops x ≡ true → (from : ℕ) × (x ≡ Swap from) × (from ≡ last_snapshot)
stop_swaps (Swap from) e = (from, refl, eqb-true from last_snapshot e)
stop_swaps x e = absurd (cc)

-- after a swap the lock is past the value that it swaps from
swap_up : (lock from : ℕ) → from ≤ lock → from + 1 ≤ lock_after lock (Swap from)
swap_up lock from le = at (eqb_tells lock from)
  where
    past : lock ≢ from → from + 1 ≤ lock
    past ne = cases (equal_or lock from le)
      where
        equal_or : (n m : ℕ) → m ≤ n → (n ≡ m) ⊎ (m < n)
        equal_or n m l = grind arith

        cases : (lock ≡ from) ⊎ (from < lock) → from + 1 ≤ lock
        cases (inl e) = absurd (ne e)
        cases (inr l) = omega arith

    at : ((lock == from) ≡ true) × (lock ≡ from) ⊎ ((lock == from) ≡ false) × (lock ≢ from) → from + 1 ≤ cond (lock == from) (from + 1) lock
    at (inl f) = rw f.0 (omega arith)
    at (inr f) = rw f.0 (past f.1)

module _ {C : Type 0} (code : C → Effect C) (init : ℕ → C) (bounds : List ℕ) (m0 : List ℕ) (is_memory : IsMemory bounds m0) (fits : FitsCells code bounds) where
  -- the value that a part swaps from is not above the lock
  swaps_low : (h : History) (t : ℕ) (p : Part C) (from : ℕ) → h.top ≤ h.lock → PartOk code bounds h t (init t) p → access code p.thread ≡ Swap from → from ≤ h.lock
  swaps_low h t p from up ok e = at p.thread.attempt ok.now e
    where
      at : (o : Option (Attempt C)) → Now code bounds h t (init t) p.records p.base p.thread o → access_of p.thread o (code p.thread.configuration) ≡ Swap from → from ≤ h.lock
      at None n f = outside_swaps p.thread.status (code p.thread.configuration) from f
      at (Some a) n f = let is = inside_swaps a from (op_of (code p.thread.configuration) a.kept p.thread.trapping) f in let le = n.steady.in_time in omega arith

  -- the lock never falls
  step_up : (w : World C) (h : History) (t : ℕ) → Invariant code bounds init m0 h w → w.lock ≤ (step code w t).lock
  step_up w h t v = at (slice_get w.parts t) refl
    where
      at : (o : Option (Part C)) → slice_get w.parts t ≡ o → w.lock ≤ (step_of code w t o).lock
      at None e = omega arith
      at (Some p) e =
          let a = access code p.thread in
          let made = part_step code bounds t (init t) h w.words fits v.history p (v.parts t p e) in
          let up = made.moves.lock in
          let after : lock_after w.lock a ≡ made.after.lock = ap (λ l. lock_after l a) v.lock ∙ made.same_lock in
          let before = v.lock in
          omega arith

  run_up : (ts : List ℕ) (w : World C) (h : History) → Invariant code bounds init m0 h w → w.lock ≤ (run code ts w).lock
  run_up [] w h v = omega arith
  run_up (t ∷ ts) w h v =
      let s = step_invariant code bounds init m0 fits w h t v in
      let first = step_up w h t v in
      let rest = run_up ts (step code w t) s.0 s.1 in
      omega arith

  -- a step that stops leaves the lock past all values
  stop_lock : (w : World C) (h : History) (t : ℕ) (p : Part C) → Invariant code bounds init m0 h w → slice_get w.parts t ≡ Some p → stops (access code p.thread) ≡ true → 2 ^ 64 - 1 ≤ lock_after w.lock (access code p.thread)
  stop_lock w h t p v e s =
      let g = stop_swaps (access code p.thread) s in
      let b = lock_bounds h h.holder v.history.lock in
      let low = swaps_low h t p g.0 b.0 (v.parts t p e) g.1 in
      let same = v.lock in
      let up = swap_up w.lock g.0 (omega arith) in
      let is = g.2 in
      subst (λ x. 2 ^ 64 - 1 ≤ lock_after w.lock x) (sym g.1) (omega arith)

  -- steps that lead to a smaller lock do not stop
  pub reached_run : (threads : ℕ) (ts : List ℕ) (w : World C) (h : History) → Invariant code bounds init m0 h w → (run code ts w).lock < 2 ^ 64 - 1 → Reached code init m0 threads w → Reached code init m0 threads (run code ts w)
  reached_run threads [] w h v low r = r
  reached_run threads (t ∷ ts) w h v low r =
      let s = step_invariant code bounds init m0 fits w h t v in
      let rest = run_up ts (step code w t) s.0 s.1 in
      reached_run threads ts (step code w t) s.0 s.1 low (at (slice_get w.parts t) refl (omega arith))
    where
      at : (o : Option (Part C)) → slice_get w.parts t ≡ o → (step_of code w t o).lock < 2 ^ 64 - 1 → Reached code init m0 threads (step_of code w t o)
      at None e lt = r
      at (Some p) e lt = by (stops (access code p.thread)) refl
        where
          by : (b : Bool) → stops (access code p.thread) ≡ b → Reached code init m0 threads (step_of code w t (Some p))
          by true f = absurd (let past = stop_lock w h t p v e f in omega arith)
          by false f = subst (λ o. Reached code init m0 threads (step_of code w t o)) e (Reached.moved w t p r e f)

-- each world that steps which do not stop lead to is that of some list of steps
module _ {C : Type 0} (code : C → Effect C) where
  pub run-append : (ts us : List ℕ) (w : World C) → run code (ts ++ us) w ≡ run code us (run code ts w)
  run-append [] us w = refl
  run-append (t ∷ ts) us w = run-append ts us (step code w t)

  pub reached_steps : (init : ℕ → C) (m0 : List ℕ) (threads : ℕ) (w : World C) → Reached code init m0 threads w → (ts : List ℕ) × (w ≡ world_after code init m0 threads ts)
  reached_steps init m0 threads w Reached.new = ([], refl)
  reached_steps init m0 threads w (Reached.moved v t p r e f) =
      let g = reached_steps init m0 threads v r in
      (g.0 ++ t ∷ [], ap (λ x. step code x t) g.1 ∙ sym (run-append g.0 (t ∷ []) (new_world init m0 threads)))
