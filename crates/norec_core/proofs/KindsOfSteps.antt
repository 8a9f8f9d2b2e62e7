-- Each step of an attempt is one of a few kinds, and each kind keeps to each law.
use Rattle.std.proofs.Common.{◌≡◌, ◌==◌, ◌%◌, ◌-◌, ℕ, suc, Bool, true, false, cond, List, [], ◌∷◌, ◌++◌, Option, None, Some, refl, ◌∙◌, ap, subst, drop, slice_get}
use Rattle.std.proofs.lemmas.Bool.{eqb-true}
use Rattle.write_log.specs.Overlay.{overlay_word, with_write}
use Rattle.norec_core.specs.declared.step.Op.{Op}
use Rattle.norec_core.specs.declared.step.Op.TheVariants as op
use Rattle.norec_core.specs.declared.step.Access.TheVariants.{Swap, StoreWord}
use Rattle.norec_core.specs.declared.step.Answer.{Answer}
use Rattle.norec_core.specs.declared.step.Answer.TheVariants.{Done, Value, Won, Lost}
use Rattle.norec_core.specs.declared.step.OpOutcome.{OpOutcome}
use Rattle.norec_core.specs.declared.step.OpOutcome.TheVariants as outcome
use Rattle.norec_core.specs.declared.step.Phase.{Phase}
use Rattle.norec_core.specs.declared.step.Phase.TheVariants.{AtOperation, ReadsLock, ValidatesTime, ValidatesEntry, Stores}
use Rattle.norec_core.specs.Attempts.{Checkpoint, Attempt}
use Rattle.norec_core.specs.Phases.{CoreStep, on, store_access, commit_access, phase_access, core_access, core_word, core_read, core_store, core_swap, core_commit, core_cancel, core_operation, core_check, core_time, core_compare, core_phase, core_step}
use Rattle.norec_core.specs.Laws.{stored_count}

-- what a step of the attempt a, asked for o and answered y, may leave of it
pub data Kind {S : Type 0} (a : Attempt S) (o : Op) (y : Answer) : Attempt S → Type 0 where
  stays : Kind a o y a
  -- an operation without a word of shared memory
  works : (b : Attempt S) → b.first ≡ a.first → b.snapshot ≡ a.snapshot → b.reads ≡ a.reads → b.phase ≡ AtOperation → Kind a o y b
  loads : (v : ℕ) → Kind a o y (record a { phase = ReadsLock v })
  logs : (cell v : ℕ) → a.phase ≡ ReadsLock v → o ≡ op.Read cell → y ≡ Value a.snapshot → Kind a o y (record a { reads = a.reads ++ (cell, v) ∷ []; phase = AtOperation })
  validates : Kind a o y (record a { phase = ValidatesTime })
  times : (time : ℕ) → a.phase ≡ ValidatesTime → y ≡ Value time → time % 2 ≡ 0 → Kind a o y (record a { phase = ValidatesEntry time 0 })
  compares : (time i : ℕ) (p : ℕ × ℕ) → a.phase ≡ ValidatesEntry time i → slice_get a.reads i ≡ Some p → y ≡ Value p.1 → Kind a o y (record a { phase = ValidatesEntry time (suc i) })
  renews : (time i : ℕ) → a.phase ≡ ValidatesEntry time i → slice_get a.reads i ≡ None → y ≡ Value time → Kind a o y (record a { snapshot = time; phase = AtOperation })
  swaps : core_access (Some a) o ≡ Swap a.snapshot → y ≡ Won → Kind a o y (record a { phase = Stores 0 })
  stores : (p : ℕ × ℕ) → slice_get a.writes (stored_count a.phase) ≡ Some p → core_access (Some a) o ≡ StoreWord p.0 p.1 → Kind a o y (record a { phase = Stores (suc (stored_count a.phase)) })

-- the kind of a step, phase by phase
module _ {S : Type 0} (a : Attempt S) (o : Op) (y : Answer) where
  abbrev Goes : CoreStep S → Type 0
  Goes n = (b : Attempt S) → n.attempt ≡ Some b → Kind a o y b

  goes : (c : Attempt S) → Kind a o y c → (b : Attempt S) → Some c ≡ Some b → Kind a o y b
  goes c k b e = let same : c ≡ b = cc in subst (Kind a o y) same k

  ends : (b : Attempt S) → None ≡ Some b → Kind a o y b
  ends b e = absurd (cc)

  either : (t : Bool) (m n : CoreStep S) → (t ≡ true → Goes m) → Goes n → Goes (cond t m n)
  either true m n f g = f refl
  either false m n f g = g

  word : (kept : Bool) (z : Answer) → Goes (core_word a kept z)
  word true (Value w) = goes a stays
  word false (Value w) = goes _ (loads w)
  word true Done = goes a stays
  word false Done = goes a stays
  word true Won = goes a stays
  word false Won = goes a stays
  word true (Lost n) = goes a stays
  word false (Lost n) = goes a stays

  read : (r : Option ℕ) (z : Answer) → Goes (core_read a r z)
  read (Some v) z = goes a stays
  read None z = word a.kept z

  store : (i : ℕ) → stored_count a.phase ≡ i → core_access (Some a) o ≡ store_access a.snapshot (slice_get a.writes i) → (r : Option (ℕ × ℕ)) → slice_get a.writes i ≡ r → Goes (core_store a i r)
  store i at e None g = ends
  store i at e (Some p) g = goes (record a { phase = Stores (suc i) })
      (subst (λ (j : ℕ). Kind a o y (record a { phase = Stores (suc j) })) at (stores p (ap (slice_get a.writes) at ∙ g) (e ∙ ap (store_access a.snapshot) g)))

  swap : (c : Attempt S) (p : OpOutcome) (z : Answer) → (z ≡ Won → Kind a o y c) → Goes (core_swap a c p z)
  swap c p Won k = goes c (k refl)
  swap c p (Lost n) k = goes _ validates
  swap c p Done k = goes a stays
  swap c p (Value n) k = goes a stays

  module _ (e : a.phase ≡ AtOperation) where
    commit : core_access (Some a) o ≡ commit_access a a.inner a.kept a.writes → (inner : List (Checkpoint S)) → a.inner ≡ inner → (kept : Bool) → a.kept ≡ kept → (ws : List (ℕ × ℕ)) → a.writes ≡ ws → Goes (core_commit a inner kept ws y)
    commit f [] g true h ws w =
        subst (λ (r : Option (ℕ × ℕ)). Goes (core_store a 0 r)) (ap (λ (x : List (ℕ × ℕ)). slice_get x 0) w)
        (store 0 (ap stored_count e) (f ∙ ap (λ (x : List (Checkpoint S)). commit_access a x a.kept a.writes) g ∙ ap (λ (x : Bool). commit_access a [] x a.writes) h) (slice_get a.writes 0) refl)
    commit f [] g false h [] w = ends
    commit f [] g false h (p ∷ ps) w =
        swap (record a { phase = Stores 0 }) outcome.Going y
        (swaps (f ∙ ap (λ (x : List (Checkpoint S)). commit_access a x a.kept a.writes) g ∙ ap (λ (x : Bool). commit_access a [] x a.writes) h ∙ ap (λ (x : List (ℕ × ℕ)). commit_access a [] false x) w))
    commit f (l ∷ ls) g kept h ws w = goes _ (works (record a { inner = ls }) refl refl refl e)

    cancel : (inner : List (Checkpoint S)) (kept : Bool) → Goes (core_cancel a inner kept)
    cancel [] false = ends
    cancel [] true = goes a stays
    cancel (l ∷ ls) kept = goes _ (works (record a { writes = l.writes; inner = ls }) refl refl refl e)

    irrevocable : (kept : Bool) → Goes (cond kept (on a outcome.Done) (core_swap a (record a { kept = true }) outcome.Done y))
    irrevocable true = goes a stays
    irrevocable false = swap (record a { kept = true }) outcome.Done y (λ w. works (record a { kept = true }) refl refl refl e)

  check : (v : ℕ) → a.phase ≡ ReadsLock v → (q : Op) → o ≡ q → (z : Answer) → y ≡ z → Goes (core_check a q v z)
  check v e (op.Read ad) f (Value lock) g = either (lock == a.snapshot) _ _ (λ t. goes _ (logs ad v e f (g ∙ ap Value (eqb-true lock a.snapshot t)))) (goes _ validates)
  check v e (op.Read ad) f Done g = goes a stays
  check v e (op.Read ad) f Won g = goes a stays
  check v e (op.Read ad) f (Lost n) g = goes a stays
  check v e op.Begin f z g = goes a stays
  check v e (op.Write ad w) f z g = goes a stays
  check v e op.Commit f z g = goes a stays
  check v e op.Cancel f z g = goes a stays
  check v e (op.CancelOuter n) f z g = goes a stays
  check v e op.Irrevocable f z g = goes a stays
  check v e op.Release f z g = goes a stays

  time : a.phase ≡ ValidatesTime → (z : Answer) → y ≡ z → Goes (core_time a z)
  time e (Value lock) g = either (lock % 2 == 0) _ _ (λ t. goes _ (times lock e g (eqb-true (lock % 2) 0 t))) (goes a stays)
  time e Done g = goes a stays
  time e Won g = goes a stays
  time e (Lost n) g = goes a stays

  compare : (t i : ℕ) → a.phase ≡ ValidatesEntry t i → (r : Option (ℕ × ℕ)) → slice_get a.reads i ≡ r → (z : Answer) → y ≡ z → Goes (core_compare a t i r z)
  compare t i e (Some p) f (Value w) g = either (w == p.1) _ _ (λ h. goes _ (compares t i p e f (g ∙ ap Value (eqb-true w p.1 h)))) ends
  compare t i e None f (Value lock) g = either (lock == t) _ _ (λ h. goes _ (renews t i e f (g ∙ ap Value (eqb-true lock t h)))) (goes _ validates)
  compare t i e None f Done g = goes a stays
  compare t i e None f Won g = goes a stays
  compare t i e None f (Lost n) g = goes a stays
  compare t i e (Some p) f Done g = goes a stays
  compare t i e (Some p) f Won g = goes a stays
  compare t i e (Some p) f (Lost n) g = goes a stays

module _ {S : Type 0} (now : S) (a : Attempt S) (y : Answer) where
  operation : a.phase ≡ AtOperation → (o : Op) → Goes a o y (core_operation now a o y)
  operation e op.Begin = goes a _ y _ (works (record a { inner = record { saved = now; writes = a.writes } ∷ a.inner }) refl refl refl e)
  operation e (op.Read ad) = read a _ y (overlay_word ad a.writes) y
  operation e (op.Write ad v) = goes a _ y _ (works (record a { writes = with_write ad v a.writes }) refl refl refl e)
  operation e op.Commit = commit a op.Commit y e (ap (λ (q : Phase). phase_access a q op.Commit) e) a.inner refl a.kept refl a.writes refl
  operation e op.Cancel = cancel a op.Cancel y e a.inner a.kept
  operation e (op.CancelOuter n) = cancel a (op.CancelOuter n) y e (drop (n - 1) a.inner) a.kept
  operation e op.Irrevocable = irrevocable a op.Irrevocable y e a.kept
  operation e op.Release = ends a op.Release y

  phase : (q : Phase) → a.phase ≡ q → (o : Op) → Goes a o y (core_phase now a q o y)
  phase AtOperation e o = operation e o
  phase (ReadsLock v) e o = check a o y v e o refl y refl
  phase ValidatesTime e o = time a o y e y refl
  phase (ValidatesEntry t i) e o = compare a o y t i e (slice_get a.reads i) refl y refl
  phase (Stores i) e op.Commit = store a op.Commit y i (ap stored_count e) (ap (λ (q : Phase). phase_access a q op.Commit) e) (slice_get a.writes i) refl
  phase (Stores i) e op.Begin = goes a _ y a stays
  phase (Stores i) e (op.Read ad) = goes a _ y a stays
  phase (Stores i) e (op.Write ad v) = goes a _ y a stays
  phase (Stores i) e op.Cancel = goes a _ y a stays
  phase (Stores i) e (op.CancelOuter n) = goes a _ y a stays
  phase (Stores i) e op.Irrevocable = goes a _ y a stays
  phase (Stores i) e op.Release = goes a _ y a stays

pub kind : {S : Type 0} (now : S) (a b : Attempt S) (o : Op) (y : Answer) → (core_step now (Some a) o y).attempt ≡ Some b → Kind a o y b
kind now a b o y e = phase now a y a.phase refl o b e
