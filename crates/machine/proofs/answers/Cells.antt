-- In every world that a list of steps leads to, threads use cells alone.
use Rattle.std.proofs.Common.{◌≡◌, ◌≢◌, ◌==◌, ◌⊎◌, inl, inr, ℕ, true, false, List, [], ◌∷◌, Option, None, Some, refl, sym, ◌∙◌, ap, subst, length, set, slice_get}
use Rattle.std.proofs.lemmas.Bool.Decides.{eqb_tells}
use Rattle.machine.proofs.steps.Worlds.{get-set_other, get-set_same}
use Rattle.bytecode.specs.Effects.{Effect, FitsCells}
use Rattle.machine.specs.NamedCells.{LogsFitIf, NamesCells}
use Rattle.machine.specs.Serializable.{world_after}
use Rattle.machine.specs.Threads.{access, step_with}
use Rattle.machine.specs.Worlds.{Part, World, answer, new_world, part_after, run, step, step_of}
use Rattle.machine.proofs.answers.NamedCells.{access_fits, told_fits}
use Rattle.machine.proofs.answers.Hearing.{no_attempt}

module _ {C : Type 0} (code : C → Effect C) (bounds : List ℕ) (fits : FitsCells code bounds) where
  abbrev LogsAre : World C → Type 0
  LogsAre w = (t : ℕ) (p : Part C) → slice_get w.parts t ≡ Some p → LogsFitIf (length bounds) p.thread.attempt

  abbrev part_by : World C → Part C → Part C
  part_by w p = part_after w.words p (step_with code p.thread (answer w.lock w.words (access code p.thread)))

  moved_logs : (w : World C) (t : ℕ) (p : Part C) → slice_get w.parts t ≡ Some p → LogsAre w → LogsAre (step_of code w t (Some p))
  moved_logs w t p e logs u r f = go (eqb_tells u t)
    where
      go : ((u == t) ≡ true) × (u ≡ t) ⊎ ((u == t) ≡ false) × (u ≢ t) → LogsFitIf (length bounds) r.thread.attempt
      go (inl g) =
          let same : Some (part_by w p) ≡ Some r = sym (get-set_same w.parts t (part_by w p) p e) ∙ ap (slice_get (set w.parts t (part_by w p))) (sym g.1) ∙ f in
          let is : part_by w p ≡ r = cc in
          subst (λ (q : Part C). LogsFitIf (length bounds) q.thread.attempt) is (told_fits code bounds fits p.thread (answer w.lock w.words (access code p.thread)) (logs t p e))
      go (inr g) = logs u r (sym (get-set_other w.parts t u (part_by w p) g.1) ∙ f)

  step_logs : (w : World C) (t : ℕ) → LogsAre w → LogsAre (step code w t)
  step_logs w t logs = at (slice_get w.parts t) refl
    where
      at : (o : Option (Part C)) → slice_get w.parts t ≡ o → LogsAre (step_of code w t o)
      at None e = logs
      at (Some p) e = moved_logs w t p e logs

  run_logs : (ts : List ℕ) (w : World C) → LogsAre w → LogsAre (run code ts w)
  run_logs [] w logs = logs
  run_logs (t ∷ ts) w logs = run_logs ts (step code w t) (step_logs w t logs)

  pub names_cells : (init : ℕ → C) (m0 : List ℕ) (threads : ℕ) (ts : List ℕ) → NamesCells code (length bounds) (world_after code init m0 threads ts)
  names_cells init m0 threads ts t p e =
      let logs = run_logs ts (new_world init m0 threads) (λ u q f. subst (LogsFitIf (length bounds)) (sym (no_attempt init 0 threads u q f)) tt) t p e in
      (logs, access_fits code bounds fits p.thread logs)
