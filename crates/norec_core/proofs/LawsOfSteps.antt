-- Each kind of step keeps to each law.
use Rattle.std.proofs.Common.{◌≡◌, ◌==◌, ◌%◌, ◌+◌, ◌-◌, ◌⊎◌, inl, inr, ℕ, suc, Bool, true, false, cond, List, [], ◌∷◌, ◌++◌, Option, None, Some, refl, sym, ◌∙◌, ap, subst, drop, slice_get}
use Rattle.std.proofs.lemmas.Bool.{eqb-true}
use Rattle.norec_core.specs.declared.step.Op.{Op}
use Rattle.norec_core.specs.declared.step.Op.TheVariants as op
use Rattle.norec_core.specs.declared.step.Access.TheVariants.{Local, Swap, StoreWord, StoreLock}
use Rattle.norec_core.specs.declared.step.Answer.{Answer}
use Rattle.norec_core.specs.declared.step.Answer.TheVariants.{Done, Value, Won, Lost}
use Rattle.norec_core.specs.declared.step.OpOutcome.{OpOutcome}
use Rattle.norec_core.specs.declared.step.OpOutcome.TheVariants as outcome
use Rattle.norec_core.specs.declared.step.Phase.{Phase}
use Rattle.norec_core.specs.declared.step.Phase.TheVariants.{AtOperation, ReadsLock, ValidatesTime, ValidatesEntry, Stores}
use Rattle.norec_core.specs.Attempts.{Checkpoint, Attempt, Completed}
use Rattle.write_log.specs.Overlay.{overlay_word}
use Rattle.norec_core.specs.Phases.{CoreStep, on, on_snapshot, idle, store_access, read_access, entry_access, commit_access, phase_access, core_access, core_word, core_read, core_store, core_swap, core_commit, core_cancel, core_check, core_time, core_compare, core_operation, core_phase, core_begin}
use Rattle.norec_core.specs.Laws.{BeginsAtAnEvenLock, SnapshotsAreValidated, EachEntryIsCompared, ReadsAreChecked, EachPairIsStored, TheReleaseComesLast, TakesEffectAtItsSnapshot, stored_count, left_by}
use Rattle.norec_core.proofs.KindsOfSteps.{Kind, kind}
use Rattle.norec_core.proofs.KindsOfSteps.Kind.{stays, works, loads, logs, validates, times, compares, renews, swaps, stores}

module _ {S : Type 0} {a : Attempt S} {o : Op} {y : Answer} where
  snapshot_of : (b : Attempt S) → Kind a o y b → (b.first ≡ a.first) × ((b.snapshot ≡ a.snapshot) ⊎ ((i : ℕ) × (a.phase ≡ ValidatesEntry b.snapshot i) × (slice_get a.reads i ≡ None) × (y ≡ Value b.snapshot)))
  snapshot_of b stays = (refl, inl refl)
  snapshot_of b (works c first snapshot reads e) = (first, inl snapshot)
  snapshot_of b (loads v) = (refl, inl refl)
  snapshot_of b (logs ad v e f g) = (refl, inl refl)
  snapshot_of b validates = (refl, inl refl)
  snapshot_of b (times t e f g) = (refl, inl refl)
  snapshot_of b (compares t i p e f g) = (refl, inl refl)
  snapshot_of b (renews t i e f g) = (refl, inr (i, e, f, g))
  snapshot_of b (swaps e f) = (refl, inl refl)
  snapshot_of b (stores p e f) = (refl, inl refl)

  reads_of : (b : Attempt S) → Kind a o y b → (b.reads ≡ a.reads) ⊎ ((cell v : ℕ) × (a.phase ≡ ReadsLock v) × (o ≡ op.Read cell) × (y ≡ Value a.snapshot) × (b.reads ≡ a.reads ++ (cell, v) ∷ []))
  reads_of b stays = inl refl
  reads_of b (works c first snapshot reads e) = inl reads
  reads_of b (loads v) = inl refl
  reads_of b (logs ad v e f g) = inr (ad, v, e, f, g, refl)
  reads_of b validates = inl refl
  reads_of b (times t e f g) = inl refl
  reads_of b (compares t i p e f g) = inl refl
  reads_of b (renews t i e f g) = inl refl
  reads_of b (swaps e f) = inl refl
  reads_of b (stores p e f) = inl refl

  entry_of : (b : Attempt S) (time i : ℕ) → Kind a o y b → b.phase ≡ ValidatesEntry time i →
      (b ≡ a)
      ⊎ ((i ≡ 0) × (a.phase ≡ ValidatesTime) × (y ≡ Value time) × (time % 2 ≡ 0))
      ⊎ ((j : ℕ) × (p : ℕ × ℕ) × (i ≡ suc j) × (a.phase ≡ ValidatesEntry time j) × (slice_get a.reads j ≡ Some p) × (y ≡ Value p.1))
  entry_of b time i stays q = inl refl
  entry_of b time i (works c first snapshot reads e) q = absurd (cc)
  entry_of b time i (loads v) q = absurd (cc)
  entry_of b time i (logs ad v e f g) q = absurd (cc)
  entry_of b time i validates q = absurd (cc)
  entry_of b time i (times t e f g) q = let s : t ≡ time = cc in let z : i ≡ 0 = cc in inr (inl (z, e, f ∙ ap Value s, subst (λ (n : ℕ). n % 2 ≡ 0) s g))
  entry_of b time i (compares t j p e f g) q = let s : t ≡ time = cc in let z : i ≡ suc j = cc in inr (inr (j, p, z, e ∙ ap (λ (n : ℕ). ValidatesEntry n j) s, f, g))
  entry_of b time i (renews t j e f g) q = absurd (cc)
  entry_of b time i (swaps e f) q = absurd (cc)
  entry_of b time i (stores p e f) q = absurd (cc)

  pair_of : (b : Attempt S) (i : ℕ) → Kind a o y b → b.phase ≡ Stores i →
      (b ≡ a)
      ⊎ ((i ≡ 0) × (core_access (Some a) o ≡ Swap a.snapshot) × (y ≡ Won))
      ⊎ ((p : ℕ × ℕ) × (i ≡ suc (stored_count a.phase)) × (slice_get a.writes (stored_count a.phase) ≡ Some p) × (core_access (Some a) o ≡ StoreWord p.0 p.1))
  pair_of b i stays q = inl refl
  pair_of b i (works c first snapshot reads e) q = absurd (cc)
  pair_of b i (loads v) q = absurd (cc)
  pair_of b i (logs ad v e f g) q = absurd (cc)
  pair_of b i validates q = absurd (cc)
  pair_of b i (times t e f g) q = absurd (cc)
  pair_of b i (compares t j p e f g) q = absurd (cc)
  pair_of b i (renews t j e f g) q = absurd (cc)
  pair_of b i (swaps e f) q = let z : i ≡ 0 = cc in inr (inl (z, e, f))
  pair_of b i (stores p e f) q = let z : i ≡ suc (stored_count a.phase) = cc in inr (inr (p, z, e, f))

-- the release, and what takes effect, operation by operation
module _ {S : Type 0} (a : Attempt S) where
  abbrev Last : Op → ℕ → Type 0
  Last o value = (value ≡ a.snapshot + 2) × ((slice_get a.writes (stored_count a.phase) ≡ None) ⊎ ((o ≡ op.Release) × (a.kept ≡ true)))

  past : (o : Op) (value i : ℕ) → stored_count a.phase ≡ i → (r : Option (ℕ × ℕ)) → slice_get a.writes i ≡ r → store_access a.snapshot r ≡ StoreLock value → Last o value
  past o value i e None f g = let z : value ≡ a.snapshot + 2 = cc in (z, inl (ap (slice_get a.writes) e ∙ f))
  past o value i e (Some p) f g = absurd (cc)

  commits_last : (o : Op) (value : ℕ) → stored_count a.phase ≡ 0 → (inner : List (Checkpoint S)) (kept : Bool) (ws : List (ℕ × ℕ)) → a.writes ≡ ws → commit_access a inner kept ws ≡ StoreLock value → Last o value
  commits_last o value e [] true ws w g = past o value 0 e (slice_get ws 0) (ap (λ (x : List (ℕ × ℕ)). slice_get x 0) w) g
  commits_last o value e [] false [] w g = absurd (cc)
  commits_last o value e [] false (p ∷ ps) w g = absurd (cc)
  commits_last o value e (l ∷ ls) true ws w g = absurd (cc)
  commits_last o value e (l ∷ ls) false ws w g = absurd (cc)

  keeps_last : (value : ℕ) (kept : Bool) → a.kept ≡ kept → (cond kept (StoreLock (a.snapshot + 2)) Local) ≡ StoreLock value → Last op.Release value
  keeps_last value true e g = let z : value ≡ a.snapshot + 2 = cc in (z, inr (refl, e))
  keeps_last value false e g = absurd (cc)

  no_swap : (value : ℕ) (kept : Bool) → cond kept Local (Swap a.snapshot) ≡ StoreLock value → ⊥
  no_swap value true g = cc
  no_swap value false g = cc

  no_read : (value cell : ℕ) (r : Option ℕ) → read_access cell r ≡ StoreLock value → ⊥
  no_read value cell None g = cc
  no_read value cell (Some v) g = cc

  no_entry : (value : ℕ) (r : Option (ℕ × ℕ)) → entry_access r ≡ StoreLock value → ⊥
  no_entry value None g = cc
  no_entry value (Some p) g = cc

  releases : (value : ℕ) (q : Phase) → a.phase ≡ q → (o : Op) → phase_access a q o ≡ StoreLock value → Last o value
  releases value AtOperation e op.Begin g = absurd (cc)
  releases value AtOperation e (op.Read ad) g = absurd (no_read value ad _ g)
  releases value AtOperation e (op.Write ad v) g = absurd (cc)
  releases value AtOperation e op.Commit g = commits_last op.Commit value (ap stored_count e) a.inner a.kept a.writes refl g
  releases value AtOperation e op.Cancel g = absurd (cc)
  releases value AtOperation e (op.CancelOuter n) g = absurd (cc)
  releases value AtOperation e op.Irrevocable g = absurd (no_swap value a.kept g)
  releases value AtOperation e op.Release g = keeps_last value a.kept refl g
  releases value (ReadsLock v) e o g = absurd (cc)
  releases value ValidatesTime e o g = absurd (cc)
  releases value (ValidatesEntry t i) e o g = absurd (no_entry value _ g)
  releases value (Stores i) e o g = past o value i (ap stored_count e) (slice_get a.writes i) refl g

-- what takes effect, operation by operation
module _ {S : Type 0} (now : S) (a : Attempt S) (y : Answer) where
  abbrev Effective : Op → Completed → Type 0
  Effective o x = (x.snapshot ≡ a.snapshot) × (x.writes ≡ left_by o a.writes)
      × (((x.took_lock ≡ true) × (core_access (Some a) o ≡ StoreLock (a.snapshot + 2)))
      ⊎ ((x.took_lock ≡ false) × (core_access (Some a) o ≡ Local) × (a.kept ≡ false) × (x.writes ≡ [])))

  abbrev Completes : Op → CoreStep S → Type 0
  Completes o n = (x : Completed) → n.completed ≡ Some x → Effective o x

  none : (o : Op) (x : Completed) → None ≡ Some x → Effective o x
  none o x e = absurd (cc)

  some : (o : Op) (c : Completed) → Effective o c → (x : Completed) → Some c ≡ Some x → Effective o x
  some o c f x e = let same : c ≡ x = cc in subst (Effective o) same f

  choice : (o : Op) (t : Bool) (m n : CoreStep S) → Completes o m → Completes o n → Completes o (cond t m n)
  choice o true m n f g = f
  choice o false m n f g = g

  no_word : (o : Op) (kept : Bool) (z : Answer) → Completes o (core_word a kept z)
  no_word o true Done = none o
  no_word o false Done = none o
  no_word o true (Value w) = none o
  no_word o false (Value w) = none o
  no_word o true Won = none o
  no_word o false Won = none o
  no_word o true (Lost n) = none o
  no_word o false (Lost n) = none o

  no_value : (o : Op) (r : Option ℕ) → Completes o (core_read a r y)
  no_value o (Some v) = none o
  no_value o None = no_word o a.kept y

  swapped : (o : Op) (c : Attempt S) (p : OpOutcome) (z : Answer) → Completes o (core_swap a c p z)
  swapped o c p Won = none o
  swapped o c p (Lost n) = none o
  swapped o c p Done = none o
  swapped o c p (Value n) = none o

  writes_back : (i : ℕ) → core_access (Some a) op.Commit ≡ store_access a.snapshot (slice_get a.writes i) → (r : Option (ℕ × ℕ)) → slice_get a.writes i ≡ r → Completes op.Commit (core_store a i r)
  writes_back i e None f = some op.Commit _ (refl, refl, inl (refl, e ∙ ap (store_access a.snapshot) f))
  writes_back i e (Some p) f = none op.Commit

  commits : core_access (Some a) op.Commit ≡ commit_access a a.inner a.kept a.writes → (inner : List (Checkpoint S)) → a.inner ≡ inner → (kept : Bool) → a.kept ≡ kept → (ws : List (ℕ × ℕ)) → a.writes ≡ ws → Completes op.Commit (core_commit a inner kept ws y)
  commits f [] g true h ws w =
      subst (λ (r : Option (ℕ × ℕ)). Completes op.Commit (core_store a 0 r)) (ap (λ (x : List (ℕ × ℕ)). slice_get x 0) w)
      (writes_back 0 (f ∙ ap (λ (x : List (Checkpoint S)). commit_access a x a.kept a.writes) g ∙ ap (λ (x : Bool). commit_access a [] x a.writes) h) (slice_get a.writes 0) refl)
  commits f [] g false h [] w =
      some op.Commit _
      (refl, sym w, inr (refl, f ∙ ap (λ (x : List (Checkpoint S)). commit_access a x a.kept a.writes) g ∙ ap (λ (x : Bool). commit_access a [] x a.writes) h ∙ ap (λ (x : List (ℕ × ℕ)). commit_access a [] false x) w, h, refl))
  commits f [] g false h (p ∷ ps) w = swapped op.Commit _ _ y
  commits f (l ∷ ls) g kept h ws w = none op.Commit

  -- of one level or of several
  cancels : (o : Op) → left_by o a.writes ≡ [] → core_access (Some a) o ≡ Local → (inner : List (Checkpoint S)) (kept : Bool) → a.kept ≡ kept → Completes o (core_cancel a inner kept)
  cancels o nothing e [] false h = some o _ (refl, sym nothing, inr (refl, e, h, refl))
  cancels o nothing e [] true h = none o
  cancels o nothing e (l ∷ ls) kept h = none o

  irrevocables : (kept : Bool) → Completes op.Irrevocable (cond kept (on a outcome.Done) (core_swap a (record a { kept = true }) outcome.Done y))
  irrevocables true = none op.Irrevocable
  irrevocables false = swapped op.Irrevocable _ _ y

  traps : core_access (Some a) op.Release ≡ cond a.kept (StoreLock (a.snapshot + 2)) Local → (kept : Bool) → a.kept ≡ kept → Effective op.Release (record { snapshot = a.snapshot; took_lock = kept; writes = [] })
  traps e true h = (refl, refl, inl (refl, e ∙ ap (λ (x : Bool). cond x (StoreLock (a.snapshot + 2)) Local) h))
  traps e false h = (refl, refl, inr (refl, e ∙ ap (λ (x : Bool). cond x (StoreLock (a.snapshot + 2)) Local) h, h, refl))

  at_operation : a.phase ≡ AtOperation → (o : Op) → Completes o (core_operation now a o y)
  at_operation e op.Begin = none _
  at_operation e (op.Read ad) = no_value _ (overlay_word ad a.writes)
  at_operation e (op.Write ad v) = none _
  at_operation e op.Commit = commits (ap (λ (q : Phase). phase_access a q op.Commit) e) a.inner refl a.kept refl a.writes refl
  at_operation e op.Cancel = cancels op.Cancel refl (ap (λ (q : Phase). phase_access a q op.Cancel) e) a.inner a.kept refl
  at_operation e (op.CancelOuter n) = cancels (op.CancelOuter n) refl (ap (λ (q : Phase). phase_access a q (op.CancelOuter n)) e) (drop (n - 1) a.inner) a.kept refl
  at_operation e op.Irrevocable = irrevocables a.kept
  at_operation e op.Release = some op.Release _ (traps (ap (λ (q : Phase). phase_access a q op.Release) e) a.kept refl)

  checks : (v : ℕ) (o q : Op) (z : Answer) → Completes o (core_check a q v z)
  checks v o (op.Read ad) (Value lock) = choice o (lock == a.snapshot) _ _ (none o) (none o)
  checks v o (op.Read ad) Done = none o
  checks v o (op.Read ad) Won = none o
  checks v o (op.Read ad) (Lost n) = none o
  checks v o op.Begin z = none o
  checks v o (op.Write ad w) z = none o
  checks v o op.Commit z = none o
  checks v o op.Cancel z = none o
  checks v o (op.CancelOuter n) z = none o
  checks v o op.Irrevocable z = none o
  checks v o op.Release z = none o

  timed : (o : Op) (z : Answer) → Completes o (core_time a z)
  timed o (Value lock) = choice o (lock % 2 == 0) _ _ (none o) (none o)
  timed o Done = none o
  timed o Won = none o
  timed o (Lost n) = none o

  compared : (t i : ℕ) (o : Op) (r : Option (ℕ × ℕ)) (z : Answer) → Completes o (core_compare a t i r z)
  compared t i o (Some p) (Value w) = choice o (w == p.1) _ _ (none o) (none o)
  compared t i o None (Value lock) = choice o (lock == t) _ _ (none o) (none o)
  compared t i o None Done = none o
  compared t i o None Won = none o
  compared t i o None (Lost n) = none o
  compared t i o (Some p) Done = none o
  compared t i o (Some p) Won = none o
  compared t i o (Some p) (Lost n) = none o

  effective : (q : Phase) → a.phase ≡ q → (o : Op) → Completes o (core_phase now a q o y)
  effective AtOperation e o = at_operation e o
  effective (ReadsLock v) e o = checks v o o y
  effective ValidatesTime e o = timed o y
  effective (ValidatesEntry t i) e o = compared t i o (slice_get a.reads i) y
  effective (Stores i) e op.Commit = writes_back i (ap (λ (q : Phase). phase_access a q op.Commit) e) (slice_get a.writes i) refl
  effective (Stores i) e op.Begin = none _
  effective (Stores i) e (op.Read ad) = none _
  effective (Stores i) e (op.Write ad v) = none _
  effective (Stores i) e op.Cancel = none _
  effective (Stores i) e (op.CancelOuter n) = none _
  effective (Stores i) e op.Irrevocable = none _
  effective (Stores i) e op.Release = none _

module _ {S : Type 0} where
  begun : (now : S) (b : Attempt S) (y : Answer) → (core_begin now y).attempt ≡ Some b →
      (y ≡ Value b.snapshot) × (b.snapshot % 2 ≡ 0) × (b ≡ record { saved = now; first = b.snapshot; snapshot = b.snapshot; reads = []; writes = []; inner = []; kept = false; phase = AtOperation })
  begun now b (Value lock) e = at (lock % 2 == 0) refl e
    where
      new : ℕ → Attempt S
      new n = record { saved = now; first = n; snapshot = n; reads = []; writes = []; inner = []; kept = false; phase = AtOperation }

      at : (t : Bool) → (lock % 2 == 0) ≡ t → (cond t (on_snapshot (record { saved = now; first = lock; snapshot = lock; reads = []; writes = []; inner = []; kept = false; phase = AtOperation }) outcome.Done) idle).attempt ≡ Some b →
          (Value lock ≡ Value b.snapshot) × (b.snapshot % 2 ≡ 0) × (b ≡ record { saved = now; first = b.snapshot; snapshot = b.snapshot; reads = []; writes = []; inner = []; kept = false; phase = AtOperation })
      at true t f =
          let same : record { saved = now; first = lock; snapshot = lock; reads = []; writes = []; inner = []; kept = false; phase = AtOperation } ≡ b = cc in
          let s : lock ≡ b.snapshot = ap (λ (x : Attempt S). x.snapshot) same in
          (ap Value s, subst (λ (n : ℕ). n % 2 ≡ 0) s (eqb-true (lock % 2) 0 t), sym same ∙ ap (λ (n : ℕ). record { saved = now; first = n; snapshot = n; reads = []; writes = []; inner = []; kept = false; phase = AtOperation }) s)
      at false t f = absurd (cc)
  begun now b Done e = absurd (cc)
  begun now b Won e = absurd (cc)
  begun now b (Lost n) e = absurd (cc)

  pub begins : BeginsAtAnEvenLock S
  begins now b op.Begin y e = let f = begun now b y e in (refl, f.0, f.1, f.2)
  begins now b (op.Read ad) y e = absurd (cc)
  begins now b (op.Write ad v) y e = absurd (cc)
  begins now b op.Commit y e = absurd (cc)
  begins now b op.Cancel y e = absurd (cc)
  begins now b (op.CancelOuter n) y e = absurd (cc)
  begins now b op.Irrevocable y e = absurd (cc)
  begins now b op.Release y e = absurd (cc)

  pub snapshots : SnapshotsAreValidated S
  snapshots now a b o y e = snapshot_of b (kind now a b o y e)

  pub entries : EachEntryIsCompared S
  entries now a b o y time i e = entry_of b time i (kind now a b o y e)

  pub reads : ReadsAreChecked S
  reads now a b o y e = reads_of b (kind now a b o y e)

  pub pairs : EachPairIsStored S
  pairs now a b o y i e = pair_of b i (kind now a b o y e)

  pub release : TheReleaseComesLast S
  release a o value e = releases a value a.phase refl o e

  pub effect : TakesEffectAtItsSnapshot S
  effect now a o y x e = effective now a y a.phase refl o x e
