-- Attempts are dropped no more often than others have taken the lock.
use Rattle.std.proofs.Common.{suc, ◌≡◌, ◌-◌, ◌≢◌, ◌<◌, ◌≤◌, ◌+◌, ◌*◌, ◌%◌, ◌==◌, ◌⊎◌, inl, inr, ℕ, Bool, true, false, cond, List, [], ◌∷◌, ◌++◌, Option, None, Some, refl, sym, ◌∙◌, ap, subst, slice_get, drop, slice_index, set, if◌then◌else◌, arith}
use Rattle.std.specs.List.{AllByRecursion}
use Rattle.std.proofs.lemmas.Bool.Decides.{eqb_tells}
use Rattle.syntax.specs.Behaviours.{IsMemory}
use Rattle.write_log.specs.Overlay.{overlay_word}
use Rattle.bytecode.specs.Effects.{Effect, FitsCells}
use Rattle.bytecode.specs.Effects.Effect.{Print}
use Rattle.norec_core.specs.Attempts.{Attempt, Checkpoint, Completed}
use Rattle.norec_core.specs.Phases.{CoreStep, core_cancel, core_check, core_commit, core_compare, core_operation, core_phase, core_read, core_store, core_swap, core_time, core_word}
use Rattle.norec_core.specs.declared.step.Access.{Access}
use Rattle.norec_core.specs.declared.step.Answer.{Answer}
use Rattle.norec_core.specs.declared.step.Answer.TheVariants.{Lost, Value, Won}
use Rattle.norec_core.specs.declared.step.Op.{Op}
use Rattle.norec_core.specs.declared.step.OpOutcome.{OpOutcome}
use Rattle.norec_core.specs.declared.step.Phase.{Phase}
use Rattle.norec_core.specs.declared.step.Phase.TheVariants.{AtOperation, ReadsLock, Stores, ValidatesEntry, ValidatesTime}
use Rattle.machine.specs.Drops.{DropsAreBounded, DropsComeAfterTakings, dropped_in, drops, drop_count, taken_by_others}
use Rattle.machine.specs.inner.Invariant.{History, Invariant, LeftIs, Now, RecordOk, StepOk}
use Rattle.machine.specs.Explained.{IsFree, IsHeld}
use Rattle.machine.specs.Merges.{Entry, count_takers, own}
use Rattle.machine.specs.Serializable.{HasChanged, world_after}
use Rattle.machine.specs.Threads.{Next, Thread, access, op_of, own_step, print_inside, step_with, told_inside, told_of}
use Rattle.machine.specs.Worlds.{Part, Record, World, with_record, answer, lock_after, new_parts, new_world, part_after, record_of, step_record, run, step, step_of, words_after}
use Rattle.machine.proofs.parts.Frame.{lock_bounds}
use Rattle.machine.proofs.parts.Part.{even_words}
use Rattle.machine.proofs.runs.Order.{CompletedAt, SameFirst, StepGoes, fresh, goes}
use Rattle.machine.proofs.runs.Serializable.{new_invariant, new_part_at, serializable, start_of}
use Rattle.machine.proofs.single.Aborts.{abort_reason}
use Rattle.machine.proofs.steps.PartSteps.{part_step}
use Rattle.machine.proofs.steps.Worlds.{get-set_other, get-set_same, run_invariant, step_invariant}
use Rattle.norec_core.specs.declared.step.Op.TheVariants as op
use Rattle.norec_core.specs.declared.step.OpOutcome.TheVariants as outcome

module _ {C : Type 0} (now : C) (a : Attempt C) where
  -- where the attempt goes on, nothing has taken effect
  abbrev Goes : CoreStep C → Type 0
  Goes n = (b : Attempt C) → n.attempt ≡ Some b → n.completed ≡ None

  either : (b : Bool) (m n : CoreStep C) → Goes m → Goes n → Goes (cond b m n)
  either true m n x y = x
  either false m n x y = y

  word : (kept : Bool) (ans : Answer) → Goes (core_word a kept ans)
  word true (Value v) = (λ b e. refl)
  word false (Value v) = (λ b e. refl)
  word true _ = (λ b e. refl)
  word false _ = (λ b e. refl)

  read : (o : Option ℕ) (ans : Answer) → Goes (core_read a o ans)
  read (Some v) ans = (λ b e. refl)
  read None ans = word a.kept ans

  store : (i : ℕ) (o : Option (ℕ × ℕ)) → Goes (core_store a i o)
  store i None = (λ b e. absurd (cc))
  store i (Some q) = (λ b e. refl)

  swap : (x : Attempt C) (o : OpOutcome) (ans : Answer) → Goes (core_swap a x o ans)
  swap x o Won = (λ b e. refl)
  swap x o (Lost n) = (λ b e. refl)
  swap x o _ = (λ b e. refl)

  commit : (inner : List (Checkpoint C)) (kept : Bool) (ws : List (ℕ × ℕ)) (ans : Answer) → Goes (core_commit a inner kept ws ans)
  commit [] true ws ans = store 0 (slice_get ws 0)
  commit [] false [] ans = (λ b e. absurd (cc))
  commit [] false (q ∷ qs) ans = swap (record a { phase = Stores 0 }) outcome.Going ans
  commit (l ∷ ls) kept ws ans = (λ b e. refl)

  cancel : (inner : List (Checkpoint C)) (kept : Bool) → Goes (core_cancel a inner kept)
  cancel [] false = (λ b e. absurd (cc))
  cancel [] true = (λ b e. refl)
  cancel (l ∷ ls) kept = (λ b e. refl)

  operation : (o : Op) (ans : Answer) → Goes (core_operation now a o ans)
  operation op.Begin ans = (λ b e. refl)
  operation (op.Read ad) ans = read (overlay_word ad a.writes) ans
  operation (op.Write ad v) ans = (λ b e. refl)
  operation op.Commit ans = commit a.inner a.kept a.writes ans
  operation op.Cancel ans = cancel a.inner a.kept
  operation (op.CancelOuter levels) ans = cancel (drop (levels - 1) a.inner) a.kept
  operation op.Irrevocable ans = either a.kept _ _ (λ b e. refl) (swap (record a { kept = true }) outcome.Done ans)
  operation op.Release ans = (λ b e. absurd (cc))

  check : (o : Op) (v : ℕ) (ans : Answer) → Goes (core_check a o v ans)
  check (op.Read ad) v (Value l) = either (l == a.snapshot) _ _ (λ b e. refl) (λ b e. refl)
  check _ v _ = (λ b e. refl)

  time : (ans : Answer) → Goes (core_time a ans)
  time (Value l) = either ((l % 2) == 0) _ _ (λ b e. refl) (λ b e. refl)
  time _ = (λ b e. refl)

  compare : (t i : ℕ) (o : Option (ℕ × ℕ)) (ans : Answer) → Goes (core_compare a t i o ans)
  compare t i (Some q) (Value w) = either (w == q.1) _ _ (λ b e. refl) (λ b e. absurd (cc))
  compare t i None (Value l) = either (l == t) _ _ (λ b e. refl) (λ b e. refl)
  compare t i _ _ = (λ b e. refl)

  stored : (o : Op) (i : ℕ) (ans : Answer) → Goes (core_phase now a (Stores i) o ans)
  stored op.Commit i ans = store i (slice_get a.writes i)
  stored _ i ans = (λ b e. refl)

  core_goes : (q : Phase) (o : Op) (ans : Answer) → Goes (core_phase now a q o ans)
  core_goes AtOperation o ans = operation o ans
  core_goes (ReadsLock v) o ans = check o v ans
  core_goes ValidatesTime o ans = time ans
  core_goes (ValidatesEntry t i) o ans = compare t i (slice_get a.reads i) ans
  core_goes (Stores i) o ans = stored o i ans

module _ {C : Type 0} (code : C → Effect C) (th : Thread C) (a : Attempt C) where
  print_goes : (piece : List ℕ) (c : C) (kept : Bool) → (print_inside th piece c kept).completed ≡ None
  print_goes piece c true = refl
  print_goes piece c false = refl

  own_goes : (x : Effect C) → (own_step th a x).completed ≡ None
  own_goes (Print piece c) = print_goes piece c a.kept
  own_goes _ = refl

  inside_goes : (x : Effect C) (o : Option Op) (ans : Answer) (b : Attempt C) → (told_inside code th a x o ans).thread.attempt ≡ Some b → (told_inside code th a x o ans).completed ≡ None
  inside_goes x None ans b e = own_goes x
  inside_goes x (Some o) ans b e = core_goes th.configuration a a.phase o ans b e

  -- where a step leaves an attempt there, nothing takes effect in it
  stays : th.attempt ≡ Some a → (ans : Answer) (b : Attempt C) → (step_with code th ans).thread.attempt ≡ Some b → (step_with code th ans).completed ≡ None
  stays e ans = subst (λ (o : Option (Attempt C)). (b : Attempt C) → (told_of code th o (code th.configuration) ans).thread.attempt ≡ Some b → (told_of code th o (code th.configuration) ans).completed ≡ None) (sym e)
      (inside_goes (code th.configuration) (op_of (code th.configuration) a.kept th.trapping) ans)

-- ---- the bound

-- how many of these records took the lock
abbrev takers : List Record → ℕ
takers [] = 0
takers (x ∷ xs) = (if x.took_lock then 1 else 0) + takers xs

takers_more : (xs : List Record) (x : Record) → takers (xs ++ x ∷ []) ≡ takers xs + (if x.took_lock then 1 else 0)
takers_more [] x = omega arith
takers_more (y ∷ ys) x = let ih : takers (ys ++ x ∷ []) ≡ takers ys + (if x.took_lock then 1 else 0) = takers_more ys x in omega (arith, ih)

-- a thread's own and the others'
parted : (t : ℕ) (es : List Entry) → count_takers es ≡ takers (own t es) + taken_by_others t es
parted t [] = omega arith
parted t (e ∷ es) = at (e.thread == t) e.item.took_lock refl (parted t es)
  where
    at : (b c : Bool) → e.item.took_lock ≡ c → count_takers es ≡ takers (own t es) + taken_by_others t es
        → (if e.item.took_lock then suc (count_takers es) else count_takers es) ≡ takers (if b then e.item ∷ own t es else own t es) + ((if b then 0 else if e.item.took_lock then 1 else 0) + taken_by_others t es)
    at true true f ih = rw f (omega (arith, ih))
    at true false f ih = rw f (omega (arith, ih))
    at false true f ih = rw f (omega (arith, ih))
    at false false f ih = rw f (omega (arith, ih))

pub last_of : {X : Type 0} (P : X → Type 0) (xs : List X) (x : X) → AllByRecursion P (xs ++ x ∷ []) → P x
last_of P [] x all = all.0
last_of P (y ∷ ys) x all = last_of P ys x all.1

rounded : (l k : ℕ) → l ≤ k → l + l % 2 ≤ k + k % 2
rounded l k le = omega (arith, le)

past_even : (s l : ℕ) → s % 2 ≡ 0 → s < l → s + 2 ≤ l + l % 2
past_even s l even lt = omega (arith, even, lt)

module _ {C : Type 0} where
  -- twice what has been counted is at most the first snapshot of the attempt, or else the lock rounded up
  abbrev FewDrops : ℕ → ℕ → Option (Attempt C) → List Record → Type 0
  FewDrops d lock None xs = 2 * (d + takers xs) ≤ lock + lock % 2
  FewDrops d lock (Some a) xs = 2 * (d + takers xs) ≤ a.first

  abbrev FewDropsIf : ℕ → ℕ → Option (Part C) → Type 0
  FewDropsIf d lock None = Unit {0}
  FewDropsIf d lock (Some p) = FewDrops d lock p.thread.attempt p.records

  higher : (d l k : ℕ) (o : Option (Attempt C)) (xs : List Record) → l ≤ k → FewDrops d l o xs → FewDrops d k o xs
  higher d l k None xs le b = let r : l + l % 2 ≤ k + k % 2 = rounded l k le in omega (arith, r, b)
  higher d l k (Some a) xs le b = b

  higher_if : (d l k : ℕ) (o : Option (Part C)) → l ≤ k → FewDropsIf d l o → FewDropsIf d k o
  higher_if d l k None le b = tt
  higher_if d l k (Some p) le b = higher d l k p.thread.attempt p.records le b

module _ {C : Type 0} (code : C → Effect C) (init : ℕ → C) (bounds : List ℕ) (m0 : List ℕ) (is_memory : IsMemory bounds m0) (fits : FitsCells code bounds) where
  -- a word has changed only where the lock was taken
  past : (w : World C) (h : History) (t : ℕ) (p : Part C) (a : Attempt C) → Invariant code bounds init m0 h w → Now code bounds h t (init t) p.records p.base p.thread (Some a) → HasChanged a w.words → a.snapshot < w.lock
  past w h t p a v n changed = at cases
    where
      top : h.top ≤ h.lock
      top = (lock_bounds h h.holder v.history.lock).0

      within : a.snapshot ≤ h.top
      within = n.steady.in_time

      cases : (a.snapshot < w.lock) ⊎ (h.lock ≡ a.snapshot)
      cases = let l : w.lock ≡ h.lock = v.lock in let t : h.top ≤ h.lock = top in let i : a.snapshot ≤ h.top = within in grind arith

      at : (a.snapshot < w.lock) ⊎ (h.lock ≡ a.snapshot) → a.snapshot < w.lock
      at (inl lt) = lt
      at (inr same) =
          let e = even_words bounds h w.words v.history (ap (λ k. k % 2) same ∙ n.steady.even) in
          absurd (changed.other (ap (λ m. slice_index m changed.entry.0) (e.1 ∙ ap h.mem (sym e.0 ∙ same)) ∙ n.steady.agrees changed.i changed.entry changed.logged))

  module _ (w : World C) (h : History) (t : ℕ) (v : Invariant code bounds init m0 h w) (d : ℕ) (p : Part C) (here : slice_get w.parts t ≡ Some p) where
    abbrev x : Access
    x = access code p.thread

    abbrev n : Next C
    n = step_with code p.thread (answer w.lock w.words x)

    abbrev q : Part C
    q = part_after w.words p n

    moved : StepOk code bounds t (init t) h (lock_after w.lock x) (words_after w.words x) q
    moved = subst (λ l. StepOk code bounds t (init t) h (lock_after l x) (words_after w.words x) (part_after w.words p (step_with code p.thread (answer l w.words x)))) (sym v.lock) (part_step code bounds t (init t) h w.words fits v.history p (v.parts t p here))

    grows : w.lock ≤ lock_after w.lock x
    grows = let a : h.lock ≤ moved.after.lock = moved.moves.lock in let b : lock_after w.lock x ≡ moved.after.lock = moved.same_lock in let c : w.lock ≡ h.lock = v.lock in omega (arith, a, b, c)

    -- one that took effect with the lock leaves it two above the snapshot
    takes : (a : Attempt C) (r : Record) (b : Bool) → a.first ≤ a.snapshot → a.snapshot ≤ w.lock → r.snapshot ≡ a.snapshot → LeftIs moved.after t r b → a.first + 2 * (if b then 1 else 0) ≤ lock_after w.lock x + lock_after w.lock x % 2
    takes a r true since in_time is l =
        let top : moved.after.top ≤ moved.after.lock = (lock_bounds moved.after moved.after.holder moved.history.lock).0 in
        let same : lock_after w.lock x ≡ moved.after.lock = moved.same_lock in
        let two : r.snapshot + 2 ≤ moved.after.top = l.0 in
        omega (arith, since, is, top, same, two)
    takes a r false since in_time is l = let g : w.lock ≤ lock_after w.lock x = grows in omega (arith, since, in_time, g)

    by : (o o' : Option (Attempt C)) (j : Option Completed) → p.thread.attempt ≡ o → n.thread.attempt ≡ o' → n.completed ≡ j → Now code bounds h t (init t) p.records p.base p.thread o → StepGoes o n → FewDrops d w.lock o p.records
        → FewDrops (d + drop_count o o' j) (lock_after w.lock x) o' (with_record p.records (step_record p.base j))
    by None o' (Some y) ea eb ec now g b = absurd (let e : n.completed ≡ None = g.0 in let f : Some y ≡ None = sym ec ∙ e in cc)
    by None None None ea eb ec now g b = let r : w.lock + w.lock % 2 ≤ lock_after w.lock x + lock_after w.lock x % 2 = rounded w.lock (lock_after w.lock x) grows in omega (arith, r, b)
    by None (Some c) None ea eb ec now g b =
        let f = fresh code p.thread w.lock w.words c ea eb in
        let even : w.lock % 2 ≡ 0 = f.0 in
        let first : c.first ≡ w.lock = f.1 in
        omega (arith, even, first, b)
    by (Some a) None None ea eb ec now g b =
        let lt : a.snapshot < w.lock = past w h t p a v now (abort_reason code p.thread a w.lock w.words ea eb ec) in
        let since : a.first ≤ a.snapshot = now.steady.since in
        let two : a.snapshot + 2 ≤ w.lock + w.lock % 2 = past_even a.snapshot w.lock now.steady.even lt in
        let r : w.lock + w.lock % 2 ≤ lock_after w.lock x + lock_after w.lock x % 2 = rounded w.lock (lock_after w.lock x) grows in
        omega (arith, since, two, r, b)
    by (Some a) None (Some y) ea eb ec now g b =
        let r : Record = record_of p.base y in
        let each : AllByRecursion (RecordOk moved.after t) (p.records ++ record_of p.base y ∷ []) = subst (λ j. AllByRecursion (RecordOk moved.after t) (with_record p.records (step_record p.base j))) ec moved.part.each in
        let is : y.snapshot ≡ a.snapshot = subst (CompletedAt a) ec g.1 in
        let up : a.snapshot ≤ h.top = now.steady.in_time in
        let top : h.top ≤ h.lock = (lock_bounds h h.holder v.history.lock).0 in
        let same : w.lock ≡ h.lock = v.lock in
        let most = takes a (record_of p.base y) y.took_lock now.steady.since (omega (arith, up, top, same)) is (last_of (RecordOk moved.after t) p.records (record_of p.base y) each).left in
        let more : takers (p.records ++ record_of p.base y ∷ []) ≡ takers p.records + (if y.took_lock then 1 else 0) = takers_more p.records (record_of p.base y) in
        sums d (takers p.records) (takers (p.records ++ record_of p.base y ∷ [])) (if y.took_lock then 1 else 0) a.first (lock_after w.lock x + lock_after w.lock x % 2) more b most
      where
        sums : (d k m i f l : ℕ) → m ≡ k + i → 2 * (d + k) ≤ f → f + 2 * i ≤ l → 2 * (d + 0 + m) ≤ l
        sums d k m i f l e b u = omega (arith, e, b, u)
    by (Some a) (Some c) None ea eb ec now g b =
        let same : c.first ≡ a.first = subst (SameFirst (Some a)) eb g.0 in
        omega (arith, same, b)
    by (Some a) (Some c) (Some y) ea eb ec now g b = absurd (let e : n.completed ≡ None = stays code p.thread a ea (answer w.lock w.words x) c eb in let f : Some y ≡ None = sym ec ∙ e in cc)

    mine : FewDrops d w.lock p.thread.attempt p.records → FewDrops (d + drop_count p.thread.attempt n.thread.attempt n.completed) (lock_after w.lock x) n.thread.attempt q.records
    mine b = by p.thread.attempt n.thread.attempt n.completed refl refl refl (v.parts t p here).now (goes code p.thread (answer w.lock w.words x)) b

  one_step : (w : World C) (h : History) (t u d : ℕ) → Invariant code bounds init m0 h w → FewDropsIf d w.lock (slice_get w.parts t)
      → FewDropsIf (d + (if u == t then dropped_in code w (slice_get w.parts u) else 0)) (step code w u).lock (slice_get (step code w u).parts t)
  one_step w h t u d v b = at (slice_get w.parts u) refl
    where
      same_count : (k : ℕ) → d ≡ k → FewDropsIf k w.lock (slice_get w.parts t)
      same_count k e = subst (λ j. FewDropsIf j w.lock (slice_get w.parts t)) e b

      at : (o : Option (Part C)) → slice_get w.parts u ≡ o → FewDropsIf (d + (if u == t then dropped_in code w o else 0)) (step_of code w u o).lock (slice_get (step_of code w u o).parts t)
      at None e = same_count (d + (if u == t then 0 else 0)) (nothing (u == t))
        where
          nothing : (c : Bool) → d ≡ d + (if c then 0 else 0)
          nothing true = omega arith
          nothing false = omega arith
      at (Some p) e = by_number (eqb_tells u t)
        where
          r : Part C
          r = part_after w.words p (step_with code p.thread (answer w.lock w.words (access code p.thread)))

          l : ℕ
          l = lock_after w.lock (access code p.thread)

          by_number : ((u == t) ≡ true) × (u ≡ t) ⊎ ((u == t) ≡ false) × (u ≢ t) → FewDropsIf (d + (if u == t then dropped_in code w (Some p) else 0)) (lock_after w.lock (access code p.thread)) (slice_get (set w.parts u (part_after w.words p (step_with code p.thread (answer w.lock w.words (access code p.thread))))) t)
          by_number (inl f) =
              let here : slice_get w.parts t ≡ Some p = ap (slice_get w.parts) (sym f.1) ∙ e in
              let now : slice_get (set w.parts u (part_after w.words p (step_with code p.thread (answer w.lock w.words (access code p.thread))))) t ≡ Some (part_after w.words p (step_with code p.thread (answer w.lock w.words (access code p.thread)))) =
              ap (slice_get (set w.parts u (part_after w.words p (step_with code p.thread (answer w.lock w.words (access code p.thread)))))) (sym f.1) ∙ get-set_same w.parts u _ p e in
              rw f.0 (rw now (mine w h t v d p here (subst (FewDropsIf d w.lock) here b)))
          by_number (inr f) =
              let zero_more : d ≡ d + 0 = omega arith in
              rw f.0 (rw (get-set_other w.parts u t (part_after w.words p (step_with code p.thread (answer w.lock w.words (access code p.thread)))) (λ k. f.1 (sym k)))
              (higher_if (d + 0) w.lock (lock_after w.lock (access code p.thread)) (slice_get w.parts t) (grows w h u v d p e) (same_count (d + 0) zero_more)))

  over : (us : List ℕ) (w : World C) (h : History) (t d : ℕ) → Invariant code bounds init m0 h w → FewDropsIf d w.lock (slice_get w.parts t) → (q : Part C) → slice_get (run code us w).parts t ≡ Some q
      → 2 * (d + drops code t us w + takers q.records) ≤ (run code us w).lock + (run code us w).lock % 2
  over [] w h t d v b q e = last q.thread.attempt (v.parts t q e).now (subst (FewDropsIf d w.lock) e b)
    where
      last : (o : Option (Attempt C)) → Now code bounds h t (init t) q.records q.base q.thread o → FewDrops d w.lock o q.records → 2 * (d + 0 + takers q.records) ≤ w.lock + w.lock % 2
      last None now b = omega (arith, b)
      last (Some a) now b =
          let since : a.first ≤ a.snapshot = now.steady.since in
          let up : a.snapshot ≤ h.top = now.steady.in_time in
          let top : h.top ≤ h.lock = (lock_bounds h h.holder v.history.lock).0 in
          let same : w.lock ≡ h.lock = v.lock in
          omega (arith, since, up, top, same, b)
  over (u ∷ us) w h t d v b q e =
      let s = step_invariant code bounds init m0 fits w h u v in
      let first : ℕ = (if u == t then dropped_in code w (slice_get w.parts u) else 0) in
      let all = over us (step code w u) s.0 t (d + (if u == t then dropped_in code w (slice_get w.parts u) else 0)) s.1 (one_step w h t u d v b) q e in
      sums d (if u == t then dropped_in code w (slice_get w.parts u) else 0) (drops code t us (step code w u)) (takers q.records) _ all
    where
      sums : (a b c r l : ℕ) → 2 * (a + b + c + r) ≤ l → 2 * (a + (b + c) + r) ≤ l
      sums a b c r l u = omega (arith, u)

  -- the lock rounded up to an even number is twice the number of times that it has been taken
  counted : (threads : ℕ) (ts : List ℕ) (t : ℕ) (p : Part C) → slice_get (world_after code init m0 threads ts).parts t ≡ Some p
      → 2 * (0 + drops code t ts (new_world init m0 threads) + takers p.records) ≤ (world_after code init m0 threads ts).lock + (world_after code init m0 threads ts).lock % 2
  counted threads ts t p e = over ts (new_world init m0 threads) (start_of m0) t 0 (new_invariant code init bounds m0 is_memory threads) (new (slice_get (new_parts init 0 threads) t) refl) p e
    where
      new : (o : Option (Part C)) → slice_get (new_parts init 0 threads) t ≡ o → FewDropsIf 0 0 o
      new None e = tt
      new (Some p) e = subst (FewDropsIf 0 0) (ap Some (sym (new_part_at init 0 threads t p e))) (omega arith)

  pub drops_are_bounded : (threads : ℕ) (ts : List ℕ) → DropsAreBounded code init m0 threads ts
  drops_are_bounded threads ts es m t p e =
      let w = world_after code init m0 threads ts in
      at (drops code t ts (new_world init m0 threads)) w es ((serializable code init bounds m0 is_memory fits threads ts).each_merge es m).held
      (subst (λ xs. 2 * (0 + drops code t ts (new_world init m0 threads) + takers xs) ≤ w.lock + w.lock % 2) (sym (m.own_records t p e)) (counted threads ts t p e))
    where
      at : (d : ℕ) (w : World C) (es : List Entry) → IsFree m0 w es ⊎ IsHeld m0 w es → 2 * (0 + d + takers (own t es)) ≤ w.lock + w.lock % 2 → d ≤ taken_by_others t es + w.lock % 2
      at d w es (inl f) b = let l : w.lock ≡ 2 * count_takers es = f.lock in let k : count_takers es ≡ takers (own t es) + taken_by_others t es = parted t es in omega (arith, l, k, b)
      at d w es (inr f) b = let l : w.lock ≡ 2 * count_takers es + 1 = f.lock in let k : count_takers es ≡ takers (own t es) + taken_by_others t es = parted t es in omega (arith, l, k, b)

  pub drops_come_after_takings : (threads : ℕ) (ts : List ℕ) → DropsComeAfterTakings code (world_after code init m0 threads ts)
  drops_come_after_takings threads ts t p a e has is_gone none =
      let r = run_invariant code bounds init m0 fits ts (new_world init m0 threads) (start_of m0) (new_invariant code init bounds m0 is_memory threads) in
      let w = world_after code init m0 threads ts in
      past w r.0 t p a r.1 (subst (Now code bounds r.0 t (init t) p.records p.base p.thread) has (r.1.parts t p e).now) (abort_reason code p.thread a w.lock w.words has is_gone none)
