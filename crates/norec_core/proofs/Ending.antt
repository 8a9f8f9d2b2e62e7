-- A commit that stores is over after as many steps as it has words left to store, and one.
use Rattle.std.proofs.Common.{◌≡◌, ℕ, zero, suc, Bool, true, false, List, [], ◌∷◌, Option, None, Some, refl, ◌∙◌, ap, drop, slice_get}
use Rattle.std.specs.Prelude.{length}
use Rattle.norec_core.specs.declared.step.Op.TheVariants as op
use Rattle.norec_core.specs.declared.step.Answer.{Answer}
use Rattle.norec_core.specs.declared.step.Phase.{Phase}
use Rattle.norec_core.specs.declared.step.Phase.TheVariants.{AtOperation, ReadsLock, ValidatesTime, ValidatesEntry, Stores}
use Rattle.norec_core.specs.Accesses.{IsStore}
use Rattle.norec_core.specs.Attempts.{Checkpoint, Attempt}
use Rattle.norec_core.specs.Phases.{core_store, core_commit, core_phase, core_step, commit_access, entry_access, phase_access}
use Rattle.norec_core.specs.Laws.{ACommitThatStoresEnds, after_commit, stored_count}

-- what is left of a list behind its first i elements says which one stands at i
first_left : {A : Type 0} (i : ℕ) (ws ps : List A) (p : A) → drop i ws ≡ p ∷ ps → slice_get ws i ≡ Some p
first_left zero [] ps p e = absurd (cc)
first_left zero (w ∷ ws) ps p e = let s : w ≡ p = cc in ap Some s
first_left (suc i) [] ps p e = absurd (cc)
first_left (suc i) (w ∷ ws) ps p e = first_left i ws ps p e

rest_left : {A : Type 0} (i : ℕ) (ws ps : List A) (p : A) → drop i ws ≡ p ∷ ps → drop (suc i) ws ≡ ps
rest_left zero [] ps p e = absurd (cc)
rest_left zero (w ∷ ws) ps p e = cc
rest_left (suc i) [] ps p e = absurd (cc)
rest_left (suc i) (w ∷ ws) ps p e = rest_left i ws ps p e

none_left : {A : Type 0} (i : ℕ) (ws : List A) → drop i ws ≡ [] → slice_get ws i ≡ None
none_left zero [] e = refl
none_left zero (w ∷ ws) e = absurd (cc)
none_left (suc i) [] e = refl
none_left (suc i) (w ∷ ws) e = none_left i ws e

module _ {S : Type 0} (now : S) where
  -- the commit's step stores the pair at this index, or past the last one the lock
  abbrev Stores_at : Attempt S → ℕ → Type 0
  Stores_at a i = (y : Answer) → (core_step now (Some a) op.Commit y).attempt ≡ (core_store a i (slice_get a.writes i)).attempt

  ends : (left : List (ℕ × ℕ)) (a : Attempt S) (i : ℕ) (ys : List Answer) → Stores_at a i → drop i a.writes ≡ left →
      length ys ≡ suc (length left) → after_commit now (Some a) ys ≡ None
  ends left a i [] at d e = absurd (cc)
  ends [] a i (y ∷ []) at d e = at y ∙ ap (λ (o : Option (ℕ × ℕ)). (core_store a i o).attempt) (none_left i a.writes d)
  ends [] a i (y ∷ z ∷ ys) at d e = absurd (cc)
  ends (p ∷ ps) a i (y ∷ ys) at d e =
      let b : Attempt S = record a { phase = Stores (suc i) } in
      let step = at y ∙ ap (λ (o : Option (ℕ × ℕ)). (core_store a i o).attempt) (first_left i a.writes ps p d) in
      let few : length ys ≡ suc (length ps) = cc in
      ap (λ (o : Option (Attempt S)). after_commit now o ys) step
      ∙ ends ps b (suc i) ys (λ z. refl) (rest_left i a.writes ps p d) few

  no_entry : (o : Option (ℕ × ℕ)) → IsStore (entry_access o) → ⊥
  no_entry None s = s
  no_entry (Some p) s = s

  at_commit : (a : Attempt S) (inner : List (Checkpoint S)) (kept : Bool) (writes : List (ℕ × ℕ)) →
      IsStore (commit_access a inner kept writes) → (y : Answer) →
      (core_commit a inner kept writes y).attempt ≡ (core_store a 0 (slice_get writes 0)).attempt
  at_commit a [] true writes s y = refl
  at_commit a [] false [] s y = absurd s
  at_commit a [] false (p ∷ ps) s y = absurd s
  at_commit a (l ∷ ls) kept writes s y = absurd s

  stores_first : (a : Attempt S) (ph : Phase) → IsStore (phase_access a ph op.Commit) → (y : Answer) →
      (core_phase now a ph op.Commit y).attempt ≡ (core_store a (stored_count ph) (slice_get a.writes (stored_count ph))).attempt
  stores_first a AtOperation s y = at_commit a a.inner a.kept a.writes s y
  stores_first a (ReadsLock v) s y = absurd s
  stores_first a ValidatesTime s y = absurd s
  stores_first a (ValidatesEntry t i) s y = absurd (no_entry (slice_get a.reads i) s)
  stores_first a (Stores i) s y = refl

pub commit_ends : {S : Type 0} → ACommitThatStoresEnds S
commit_ends now a ys stores e = ends now (drop (stored_count a.phase) a.writes) a (stored_count a.phase) ys (stores_first now a a.phase stores) refl e
