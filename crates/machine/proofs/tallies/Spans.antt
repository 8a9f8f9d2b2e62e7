-- Undisturbed steps from an outermost begin on: after each of them the meaning's tally says how many accesses they made.
use Rattle.std.proofs.Common.{◌≡◌, ◌≢◌, ◌+◌, ◌%◌, ◌⊎◌, inl, inr, ℕ, false, List, [], ◌∷◌, ◌++◌, Option, None, Some, refl, sym, ◌∙◌, ap, subst, slice_get, length, arith}
use Rattle.std.proofs.lemmas.Bool.{eq-eqb}
use Rattle.syntax.specs.Behaviours.{IsMemory, Memory}
use Rattle.syntax.specs.declared.thread_end.Status.TheVariants.{Running}
use Rattle.write_log.proofs.Overlay.{length-overlay}
use Rattle.bytecode.specs.Effects.{Effect, FitsCells, after_cancel}
use Rattle.bytecode.specs.Effects.Effect.{Begin}
use Rattle.bytecode.specs.Sequential.{Sequential, next, outside_step, start}
use Rattle.norec_core.specs.declared.step.Access.{Access}
use Rattle.norec_core.specs.declared.step.Access.TheVariants as access_
use Rattle.norec_core.specs.declared.step.Answer.{Answer}
use Rattle.norec_core.specs.declared.step.Phase.TheVariants.{AtOperation}
use Rattle.norec_core.specs.Accesses.{cost}
use Rattle.norec_core.specs.Attempts.{Attempt, Completed}
use Rattle.machine.specs.inner.Invariant.{History, inside}
use Rattle.machine.specs.Serializable.{world_after}
use Rattle.machine.specs.Tallies.{BeginsFree, CountsByMeaning, IsInside, IsOpenAfter, IsOverAfter, IsUndisturbed, Tally, accesses_in, cost_next, empty_tally}
use Rattle.machine.specs.Threads.{Next, Thread, access, access_of, outside_access, step_with, told_of, told_outside, told_running}
use Rattle.machine.specs.Worlds.{Part, Record, World, with_record, answer, lock_after, new_world, part_after, record_of, step_record, run, step, step_of, words_after}
use Rattle.machine.proofs.parts.Memories.{sized}
use Rattle.machine.proofs.runs.Serializable.{new_invariant, start_of}
use Rattle.machine.proofs.steps.Worlds.{get-set_other, get-set_same, run_invariant}
use Rattle.machine.proofs.tallies.Tallying.{EndsQuietly, Quiet, QuietAfter, meant, quiet_step, tally_of}

-- a step without cost is local
local_of : (x : Access) → cost x ≡ 0 → x ≡ access_.Local
local_of access_.Local e = refl
local_of x e = absurd (cc)

-- an outermost begin under a free lock
module _ {C : Type 0} (code : C → Effect C) (lock : ℕ) (words : List ℕ) (free : lock % 2 ≡ 0) where
  abbrev new_attempt : C → Attempt C
  new_attempt c = record { saved = c; first = lock; snapshot = lock; reads = []; writes = []; inner = []; kept = false; phase = AtOperation }

  record Begins (c here : C) (x : Access) (n : Next C) : Type 0 where
    pub attempt : n.thread.attempt ≡ Some (new_attempt here)
    pub configuration : n.thread.configuration ≡ c
    pub completed : n.completed ≡ None
    pub costs : cost x ≡ 1
    pub lock_same : lock_after lock x ≡ lock
    pub words_same : words_after words x ≡ words

  abbrev BeginsBy : C → Thread C → Access → (Answer → Next C) → Type 0
  BeginsBy c th x tell = Begins c th.configuration x (tell (answer lock words x))

  begin_running : (th : Thread C) (c d : C) → BeginsBy c th (outside_access Running (Begin c d)) (told_running code th (Begin c d))
  begin_running th c d = record {
    attempt = rw (eq-eqb (lock % 2) 0 free) refl;
    configuration = rw (eq-eqb (lock % 2) 0 free) refl;
    completed = rw (eq-eqb (lock % 2) 0 free) refl;
    costs = refl;
    lock_same = refl;
    words_same = refl;
  }

  begin_at : (th : Thread C) (c d : C) → th.attempt ≡ None → th.status ≡ Running → code th.configuration ≡ Begin c d → BeginsBy c th (access code th) (step_with code th)
  begin_at th c d none running is =
      subst (λ o. BeginsBy c th (access_of th o (code th.configuration)) (told_of code th o (code th.configuration))) (sym none)
      (subst (λ s. BeginsBy c th (outside_access s (code th.configuration)) (told_outside code th s (code th.configuration))) (sym running)
      (subst (λ x. BeginsBy c th (outside_access Running x) (told_running code th x)) (sym is) (begin_running th c d)))

module _ {C : Type 0} (code : C → Effect C) (bounds : List ℕ) (fits : FitsCells code bounds) (w : World C) (t : ℕ) (first : Part C) (size : length w.words ≡ length bounds) (b : BeginsFree code w t first) where
  abbrev begin : C
  begin = first.thread.configuration

  abbrev next_of : World C → Part C → Next C
  next_of v p = step_with code p.thread (answer v.lock v.words (access code p.thread))

  abbrev QuietAt : ℕ → List ℕ → ℕ → C → Attempt C → Type 0
  QuietAt lock words k c a = Quiet code bounds fits begin w.words size lock words k c a

  -- thread t's part after k accesses: in its attempt, or past it
  data StandsAt (k lock : ℕ) (words : List ℕ) (o : Option (Part C)) : Type 0 where
    inside_it : (p : Part C) (a : Attempt C) → o ≡ Some p → p.thread.attempt ≡ Some a → p.records ≡ first.records → QuietAt lock words k p.thread.configuration a → StandsAt k lock words o
    past_it : (p : Part C) (x : Record) → o ≡ Some p → p.thread.attempt ≡ None → p.records ≡ first.records ++ x ∷ [] → EndsQuietly code bounds fits begin w.words size k p.thread.configuration → StandsAt k lock words o

  abbrev Stands : ℕ → World C → Type 0
  Stands k v = StandsAt k v.lock v.words (slice_get v.parts t)

  -- the part after its step
  lands : (k lock : ℕ) (words old : List ℕ) (p : Part C) (n : Next C) (o : Option (Attempt C)) (y : Option Completed) → n.thread.attempt ≡ o → n.completed ≡ y → p.records ≡ first.records
      → QuietAfter code bounds fits begin w.words size lock words k n.thread.configuration o y → StandsAt k lock words (Some (part_after old p n))
  lands k lock words old p n (Some a) None e f same q = inside_it (part_after old p n) a refl e (ap (λ z. with_record p.records (step_record p.base z)) f ∙ same) q
  lands k lock words old p n (Some a) (Some x) e f same q = absurd q
  lands k lock words old p n None None e f same q = absurd q
  lands k lock words old p n None (Some x) e f same q = past_it (part_after old p n) (record_of p.base x) refl e (ap (λ z. with_record p.records (step_record p.base z)) f ∙ ap (λ rs. rs ++ record_of p.base x ∷ []) same) q

  -- its own step
  own_step : (k : ℕ) (v : World C) → Stands k v → IsInside v t → Stands (k + cost_next code (slice_get v.parts t)) (step code v t)
  own_step k v (past_it p x e none same q) i = let f : Some i.0 ≡ Some p = sym i.2 ∙ e in let g : i.0 ≡ p = cc in let h : None ≡ Some i.1 = sym none ∙ ap (λ (r : Part C). r.thread.attempt) (sym g) ∙ i.3 in absurd (cc)
  own_step k v (inside_it p a e f same q) i =
      subst (λ o. Stands (k + cost_next code o) (step_of code v t o)) (sym e)
      (subst (StandsAt (k + cost (access code p.thread)) (lock_after v.lock (access code p.thread)) (words_after v.words (access code p.thread))) (sym (get-set_same v.parts t (part_after v.words p (next_of v p)) p e))
      (lands (k + cost (access code p.thread)) _ _ v.words p (next_of v p) (next_of v p).thread.attempt (next_of v p).completed refl refl same
      (quiet_step code bounds fits begin w.words size p.thread a v.lock v.words k f q)))

  -- a local step of another thread
  other_step : (k : ℕ) (v : World C) (u : ℕ) → u ≢ t → (o : Option (Part C)) → slice_get v.parts u ≡ o → cost_next code o ≡ 0 → Stands k v → Stands (k + cost_next code o) (step_of code v u o)
  other_step k v u ne None e free s = subst (λ n. Stands n v) (omega arith) s
  other_step k v u ne (Some p) e free s =
      let local : access code p.thread ≡ access_.Local = local_of (access code p.thread) free in
      let count : k ≡ k + cost (access code p.thread) = omega (arith, free) in
      subst (StandsAt (k + cost (access code p.thread)) (lock_after v.lock (access code p.thread)) (words_after v.words (access code p.thread))) (sym (get-set_other v.parts u t (part_after v.words p (next_of v p)) (λ f. ne (sym f))))
      (subst (λ x. StandsAt (k + cost (access code p.thread)) (lock_after v.lock x) (words_after v.words x) (slice_get v.parts t)) (sym local)
      (subst (λ n. Stands n v) count s))

  span : (us : List ℕ) (k : ℕ) (v : World C) → IsUndisturbed code t us v → Stands k v → Stands (k + accesses_in code us v) (run code us v)
  span [] k v quiet s = subst (λ n. Stands n v) (omega arith) s
  span (u ∷ us) k v quiet s = subst (λ n. Stands n (run code (u ∷ us) v)) (omega arith) (span us (k + cost_next code (slice_get v.parts u)) (step code v u) quiet.1 (at quiet.0))
    where
      at : ((u ≡ t) × IsInside v t) ⊎ ((u ≢ t) × (cost_next code (slice_get v.parts u) ≡ 0)) → Stands (k + cost_next code (slice_get v.parts u)) (step code v u)
      at (inl h) = subst (λ n. Stands (k + cost_next code (slice_get v.parts n)) (step code v n)) (sym h.0) (own_step k v s h.1)
      at (inr h) = other_step k v u h.0 (slice_get v.parts u) refl h.1 s

  -- the begin
  begun : Begins code w.lock w.words b.free b.first begin (access code first.thread) (next_of w first)
  begun = begin_at code w.lock w.words b.free first.thread b.first b.cancelled b.outside b.running b.begins

  at_begin : Stands (cost_next code (slice_get w.parts t)) (step code w t)
  at_begin =
      subst (λ o. Stands (cost_next code o) (step_of code w t o)) (sym b.here)
      (subst (StandsAt (cost (access code first.thread)) (lock_after w.lock (access code first.thread)) (words_after w.words (access code first.thread))) (sym (get-set_same w.parts t (part_after w.words first (next_of w first)) first b.here))
      (lands (cost (access code first.thread)) _ _ w.words first (next_of w first) (Some (new_attempt code w.lock w.words b.free begin)) None begun.attempt begun.completed refl (record {
        reads = 0;
        kept_reads = 0;
        tells = (0, [], entered);
        unkept = λ f. refl;
        count = begun.costs;
        distinct = tt;
        marks = tt;
        at = (begun.words_same, λ f. begun.lock_same);
      })))
    where
      entered : ◌≡◌ {A = Sequential C × Tally} (next code (start begin (w.words ∷ [])), empty_tally) (meant code bounds fits begin w.words size (next_of w first).thread.configuration (new_attempt code w.lock w.words b.free begin) [], empty_tally)
      entered =
          ap (λ (s : Sequential C). (s, empty_tally))
          (ap (outside_step (start begin (w.words ∷ []))) b.begins
          ∙ ap (λ d. inside b.first (record { cancelled = d; found = w.words; mem = w.words; inner = []; kept = false }) [] [] []) (ap (λ x. after_cancel x begin) (sym b.begins))
          ∙ ap (λ c. meant code bounds fits begin w.words size c (new_attempt code w.lock w.words b.free begin) []) (sym begun.configuration))

  shown : (k : ℕ) (v : World C) → Stands k v → IsOpenAfter code w t first k v ⊎ IsOverAfter code w t first k v
  shown k v (inside_it p a e f same q) = inl (record {
    part = p;
    attempt = a;
    meant = meant code bounds fits begin w.words size p.thread.configuration a q.tells.1;
    tally = tally_of code bounds fits begin w.words size q.reads q.kept_reads a;
    here = e;
    in_attempt = f;
    tallies = record { instructions = q.tells.0; counts = q.tells.2; inside = λ g. cc };
    stands = refl;
    count = q.count;
  })
  shown k v (past_it p x e f same q) = inr (record {
    part = p;
    made = x;
    meant = meant code bounds fits begin w.words size q.c q.attempt q.tells.1;
    tally = tally_of code bounds fits begin w.words size q.reads q.kept_reads q.attempt;
    here = e;
    over = f;
    records = same;
    tallies = record { instructions = q.tells.0; counts = q.tells.2; inside = λ g. cc };
    ends = (q.ends q.tells.1).0;
    stands = (q.ends q.tells.1).1;
    count = q.count;
  })

  -- the whole span
  pub whole : (us : List ℕ) → IsUndisturbed code t us (step code w t)
      → IsOpenAfter code w t first (accesses_in code (t ∷ us) w) (run code (t ∷ us) w) ⊎ IsOverAfter code w t first (accesses_in code (t ∷ us) w) (run code (t ∷ us) w)
  whole us quiet = shown _ _ (span us (cost_next code (slice_get w.parts t)) (step code w t) quiet at_begin)

module _ {C : Type 0} (code : C → Effect C) (init : ℕ → C) (bounds : List ℕ) (m0 : Memory) (is_memory : IsMemory bounds m0) (fits : FitsCells code bounds) where
  -- the words are as many as the cells
  as_many : (threads : ℕ) (ts : List ℕ) → length (world_after code init m0 threads ts).words ≡ length bounds
  as_many threads ts =
      let r = run_invariant code bounds init m0 fits ts (new_world init m0 threads) (start_of m0) (new_invariant code init bounds m0 is_memory threads) in
      let h : History = r.0 in
      ap length r.1.history.contents ∙ length-overlay (h.mem h.top) h.stored ∙ sized bounds (h.mem h.top) (r.1.history.memories h.top (omega arith))

  pub counts_by_meaning : (threads : ℕ) (ts : List ℕ) (t : ℕ) → CountsByMeaning code (world_after code init m0 threads ts) t
  counts_by_meaning threads ts t p us b quiet = whole code bounds fits (world_after code init m0 threads ts) t p (as_many threads ts) b us quiet
