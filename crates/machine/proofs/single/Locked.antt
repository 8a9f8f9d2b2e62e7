-- A thread that has the lock has it until its transaction takes effect.
use Rattle.std.proofs.Common.{◌≡◌, ◌-◌, ◌≢◌, ◌==◌, ◌⊎◌, inl, inr, ℕ, suc, Bool, true, false, cond, List, [], ◌∷◌, ◌++◌, Option, None, Some, refl, sym, ◌∙◌, ap, subst, slice_get, drop, append_assoc}
use Rattle.std.proofs.lemmas.Bool.Decides.{eqb_tells}
use Rattle.syntax.specs.Behaviours.{IsMemory}
use Rattle.write_log.specs.Overlay.{overlay_word}
use Rattle.bytecode.specs.Effects.{Effect, FitsCells}
use Rattle.bytecode.specs.Effects.Effect.{Print}
use Rattle.norec_core.specs.Attempts.{Attempt, Checkpoint, Completed}
use Rattle.norec_core.specs.Phases.{CoreStep, core_cancel, core_commit, core_operation, core_phase, core_read, core_store, core_swap, core_word, on}
use Rattle.norec_core.specs.declared.step.Answer.{Answer}
use Rattle.norec_core.specs.declared.step.Answer.TheVariants.{Done}
use Rattle.norec_core.specs.declared.step.Op.{Op}
use Rattle.norec_core.specs.declared.step.Op.TheVariants as op
use Rattle.norec_core.specs.declared.step.OpOutcome.TheVariants as outcome
use Rattle.norec_core.specs.declared.step.Phase.{Phase}
use Rattle.norec_core.specs.declared.step.Phase.TheVariants.{AtOperation, ReadsLock, Stores, ValidatesEntry, ValidatesTime}
use Rattle.machine.specs.Explained.{HasLock, has_lock}
use Rattle.machine.specs.Holders.{HasLockStill, HasTakenEffect, HoldersNeverAbort}
use Rattle.machine.specs.inner.Invariant.{History, InHand, Invariant, Now}
use Rattle.machine.specs.Serializable.{world_after}
use Rattle.machine.specs.Threads.{Next, Thread, access, op_of, own_step, print_inside, step_with, told_inside, told_of}
use Rattle.machine.specs.Worlds.{Part, World, with_record, answer, new_world, part_after, record_of, step_record, run, step, step_of}
use Rattle.machine.proofs.runs.Serializable.{new_invariant, start_of}
use Rattle.machine.proofs.steps.Worlds.{get-set_other, get-set_same, run_invariant}

kept_at : (b : Bool) → has_lock b AtOperation ≡ true → b ≡ true
kept_at true e = refl
kept_at false e = absurd (cc)

storing : (b : Bool) (i : ℕ) → has_lock b (Stores i) ≡ true
storing true i = refl
storing false i = refl

-- a step that leaves this, of an attempt a that has the lock
abbrev LocksOn : {C : Type 0} → Attempt C → Option (Attempt C) → Option Completed → Type 0
LocksOn a (Some b) None = (b.snapshot ≡ a.snapshot) × (has_lock b.kept b.phase ≡ true)
LocksOn a None (Some x) = (x.snapshot ≡ a.snapshot) × (x.took_lock ≡ true)
LocksOn a (Some b) (Some x) = ⊥
LocksOn a None None = ⊥

module _ {C : Type 0} (code : C → Effect C) (h : History) (th : Thread C) (a : Attempt C) (e : th.attempt ≡ Some a) (has : has_lock a.kept a.phase ≡ true) where
  abbrev Locks : CoreStep C → Type 0
  Locks n = LocksOn a n.attempt n.completed

  store : (i : ℕ) (o : Option (ℕ × ℕ)) → Locks (core_store a i o)
  store i None = (refl, refl)
  store i (Some p) = (refl, storing a.kept (suc i))

  word : (kept : Bool) → kept ≡ true → (y : Answer) → Locks (core_word a kept y)
  word false k y = absurd (cc)
  word true k Done = (refl, has)
  word kept k y = (refl, has)

  read : (o : Option ℕ) (y : Answer) → a.kept ≡ true → Locks (core_read a o y)
  read (Some v) y k = (refl, has)
  read None y k = word a.kept k y

  commit : (inner : List (Checkpoint C)) (kept : Bool) → kept ≡ true → (ws : List (ℕ × ℕ)) (y : Answer) → Locks (core_commit a inner kept ws y)
  commit [] true k ws y = store 0 (slice_get ws 0)
  commit [] false k ws y = absurd (cc)
  commit (l ∷ ls) kept k ws y = (refl, has)

  cancel : (inner : List (Checkpoint C)) (kept : Bool) → kept ≡ true → Locks (core_cancel a inner kept)
  cancel [] true k = (refl, has)
  cancel [] false k = absurd (cc)
  cancel (l ∷ ls) kept k = (refl, has)

  irrevocable : (kept : Bool) → kept ≡ true → (y : Answer) → Locks (cond kept (on a outcome.Done) (core_swap a (record a { kept = true }) outcome.Done y))
  irrevocable true k y = (refl, has)
  irrevocable false k y = absurd (cc)

  operation : (o : Op) (y : Answer) → a.kept ≡ true → Locks (core_operation th.configuration a o y)
  operation op.Begin y k = (refl, has)
  operation (op.Read ad) y k = read (overlay_word ad a.writes) y k
  operation (op.Write ad v) y k = (refl, has)
  operation op.Commit y k = commit a.inner a.kept k a.writes y
  operation op.Cancel y k = cancel a.inner a.kept k
  operation (op.CancelOuter levels) y k = cancel (drop (levels - 1) a.inner) a.kept k
  operation op.Irrevocable y k = irrevocable a.kept k y
  operation op.Release y k = (refl, k)

  stores : (i : ℕ) (o : Op) (y : Answer) → Locks (core_phase th.configuration a (Stores i) o y)
  stores i op.Commit y = store i (slice_get a.writes i)
  stores i o y = (refl, has)

  -- validation, and the check of a read's word, are made without the lock
  unlocked : (q : Phase) → a.kept ≡ false → has_lock false q ≡ false → has_lock a.kept q ≡ true → ⊥
  unlocked q free lacks l = let x : true ≡ false = sym l ∙ ap (λ b. has_lock b q) free ∙ lacks in cc

  by_phase : (q : Phase) → InHand code h a th.configuration q → has_lock a.kept q ≡ true → (o : Op) (y : Answer) → Locks (core_phase th.configuration a q o y)
  by_phase AtOperation hand l o y = operation o y (kept_at a.kept l)
  by_phase (ReadsLock v) hand l o y = absurd (unlocked (ReadsLock v) hand.4 refl l)
  by_phase ValidatesTime hand l o y = absurd (unlocked ValidatesTime hand.0 refl l)
  by_phase (ValidatesEntry time i) hand l o y = absurd (unlocked (ValidatesEntry time i) hand.0 refl l)
  by_phase (Stores i) hand l o y = stores i o y

  abbrev LocksNext : Next C → Type 0
  LocksNext n = LocksOn a n.thread.attempt n.completed

  still : LocksOn a th.attempt None
  still = subst (λ o. LocksOn a o None) (sym e) (refl, has)

  print : (piece : List ℕ) (c : C) (kept : Bool) → LocksNext (print_inside th piece c kept)
  print piece c true = still
  print piece c false = still

  own : (x : Effect C) → LocksNext (own_step th a x)
  own (Print piece c) = print piece c a.kept
  own x = still

  -- a step of a thread that has the lock
  pub locks_on : InHand code h a th.configuration a.phase → (y : Answer) → LocksNext (step_with code th y)
  locks_on hand y = subst (λ o. LocksNext (told_of code th o (code th.configuration) y)) (sym e) (at (op_of (code th.configuration) a.kept th.trapping))
    where
      at : (o : Option Op) → LocksNext (told_inside code th a (code th.configuration) o y)
      at None = own (code th.configuration)
      at (Some o) = by_phase a.phase hand has o y

module _ {C : Type 0} (code : C → Effect C) (init : ℕ → C) (bounds : List ℕ) (m0 : List ℕ) (is_memory : IsMemory bounds m0) (fits : FitsCells code bounds) (t : ℕ) (p : Part C) (a : Attempt C) where
  abbrev Comes : Option (Part C) → Type 0
  Comes o = (q : Part C) × (o ≡ Some q) × (HasLockStill p a q ⊎ HasTakenEffect p a q)

  abbrev next_of : World C → Part C → Next C
  next_of v q = step_with code q.thread (answer v.lock v.words (access code q.thread))

  -- the part after its step: it has the lock still, or its transaction has taken effect just now
  lands : (words : List ℕ) (q : Part C) (b : Attempt C) (n : Next C) (o : Option (Attempt C)) (y : Option Completed) → n.thread.attempt ≡ o → n.completed ≡ y → b.snapshot ≡ a.snapshot → q.records ≡ p.records
      → LocksOn b o y → HasLockStill p a (part_after words q n) ⊎ HasTakenEffect p a (part_after words q n)
  lands words q b n (Some c) None f g s same l = inl (record {
    attempt = c;
    has = (f, l.1);
    snapshot = l.0 ∙ s;
    records = ap (λ z. with_record q.records (step_record q.base z)) g ∙ same;
  })
  lands words q b n None (Some x) f g s same l = inr (record {
    made = record_of q.base x;
    later = [];
    records = ap (λ z. with_record q.records (step_record q.base z)) g ∙ ap (λ rs. rs ++ record_of q.base x ∷ []) same;
    snapshot = l.0 ∙ s;
    took_lock = l.1;
  })
  lands words q b n (Some c) (Some x) f g s same l = absurd l
  lands words q b n None None f g s same l = absurd l

  -- what has taken effect stays
  later : (words : List ℕ) (q : Part C) (n : Next C) (y : Option Completed) → n.completed ≡ y → HasTakenEffect p a q → HasTakenEffect p a (part_after words q n)
  later words q n None g r = record { made = r.made; later = r.later; records = ap (λ z. with_record q.records (step_record q.base z)) g ∙ r.records; snapshot = r.snapshot; took_lock = r.took_lock }
  later words q n (Some x) g r = record {
    made = r.made;
    later = r.later ++ record_of q.base x ∷ [];
    records = ap (λ z. with_record q.records (step_record q.base z)) g ∙ ap (λ rs. rs ++ record_of q.base x ∷ []) r.records ∙ append_assoc p.records (r.made ∷ r.later) (record_of q.base x ∷ []);
    snapshot = r.snapshot;
    took_lock = r.took_lock;
  }

  module _ (v : World C) (h : History) (inv : Invariant code bounds init m0 h v) where
    own_next : (q : Part C) → slice_get v.parts t ≡ Some q → HasLockStill p a q ⊎ HasTakenEffect p a q → HasLockStill p a (part_after v.words q (next_of v q)) ⊎ HasTakenEffect p a (part_after v.words q (next_of v q))
    own_next q f (inr r) = inr (later v.words q (next_of v q) (next_of v q).completed refl r)
    own_next q f (inl s) =
        lands v.words q s.attempt (next_of v q) (next_of v q).thread.attempt (next_of v q).completed refl refl s.snapshot s.records
        (locks_on code h q.thread s.attempt s.has.0 s.has.1 (at q.thread.attempt s.has.0 (inv.parts t q f).now) (answer v.lock v.words (access code q.thread)))
      where
        at : (o : Option (Attempt C)) → o ≡ Some s.attempt → Now code bounds h t (init t) q.records q.base q.thread o → InHand code h s.attempt q.thread.configuration s.attempt.phase
        at None g n = absurd (cc)
        at (Some b) g n = let same : b ≡ s.attempt = cc in subst (λ (x : Attempt C). InHand code h x q.thread.configuration x.phase) same n.in_hand

    own_step_of : (u : ℕ) → u ≡ t → Comes (slice_get v.parts t) → Comes (slice_get (step code v u).parts t)
    own_step_of u same s =
        subst (λ n. Comes (slice_get (step code v n).parts t)) (sym same)
        (subst (λ o. Comes (slice_get (step_of code v t o).parts t)) (sym s.1)
        (part_after v.words s.0 (next_of v s.0), get-set_same v.parts t (part_after v.words s.0 (next_of v s.0)) s.0 s.1, own_next s.0 s.1 s.2))

    other_step_of : (u : ℕ) → u ≢ t → (o : Option (Part C)) → Comes (slice_get v.parts t) → Comes (slice_get (step_of code v u o).parts t)
    other_step_of u ne None s = s
    other_step_of u ne (Some q) s = subst Comes (sym (get-set_other v.parts u t (part_after v.words q (next_of v q)) (λ f. ne (sym f)))) s

    one_step : (u : ℕ) → Comes (slice_get v.parts t) → Comes (slice_get (step code v u).parts t)
    one_step u s = at (eqb_tells u t)
      where
        at : ((u == t) ≡ true) × (u ≡ t) ⊎ ((u == t) ≡ false) × (u ≢ t) → Comes (slice_get (step code v u).parts t)
        at (inl f) = own_step_of u f.1 s
        at (inr f) = other_step_of u f.1 (slice_get v.parts u) s

  each_step : (us : List ℕ) (v : World C) (h : History) → Invariant code bounds init m0 h v → Comes (slice_get v.parts t) → Comes (slice_get (run code us v).parts t)
  each_step [] v h inv s = s
  each_step (u ∷ us) v h inv s =
      let r = run_invariant code bounds init m0 fits (u ∷ []) v h inv in
      each_step us (step code v u) r.0 r.1 (one_step v h inv u s)

  goes_on : (v : World C) (h : History) → Invariant code bounds init m0 h v → (us : List ℕ) (q : Part C) → slice_get v.parts t ≡ Some p → HasLock p a → slice_get (run code us v).parts t ≡ Some q → HasLockStill p a q ⊎ HasTakenEffect p a q
  goes_on v h inv us q e has f =
      let s = each_step us v h inv (p, e, inl (record { attempt = a; has = has; snapshot = refl; records = refl })) in
      let g : Some s.0 ≡ Some q = sym s.1 ∙ f in
      let same : s.0 ≡ q = cc in
      subst (λ (r : Part C). HasLockStill p a r ⊎ HasTakenEffect p a r) same s.2

module _ {C : Type 0} (code : C → Effect C) (init : ℕ → C) (bounds : List ℕ) (m0 : List ℕ) (is_memory : IsMemory bounds m0) (fits : FitsCells code bounds) where
  pub never_aborts : (threads : ℕ) (ts : List ℕ) → HoldersNeverAbort code (world_after code init m0 threads ts)
  never_aborts threads ts us t p q a e has f =
      let r = run_invariant code bounds init m0 fits ts (new_world init m0 threads) (start_of m0) (new_invariant code init bounds m0 is_memory threads) in
      goes_on code init bounds m0 is_memory fits t p a (world_after code init m0 threads ts) r.0 r.1 us q e has f
