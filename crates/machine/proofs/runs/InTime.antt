-- Order in time, over whole lists of steps.
use Rattle.std.proofs.Common.{◌≡◌, ◌≢◌, ◌≤◌, ◌*◌, ◌==◌, ◌%◌, ◌⊎◌, inl, inr, ℕ, Bool, true, false, List, [], ◌∷◌, Option, None, Some, refl, sym, ◌∙◌, ap, subst, slice_get, set, arith}
use Rattle.std.specs.List.{AllByRecursion}
use Rattle.std.proofs.lemmas.Bool.Decides.{eqb_tells}
use Rattle.syntax.specs.Behaviours.{IsMemory, IsSubsequence}
use Rattle.bytecode.specs.Effects.{Effect, FitsCells}
use Rattle.norec_core.specs.Attempts.{Attempt, Completed}
use Rattle.machine.specs.inner.Invariant.{History, Invariant, LeftIs, Now}
use Rattle.machine.specs.Merges.{Entry, IsMerge, insert_made, key, key_of, made_of, stable_merge}
use Rattle.machine.specs.Serializable.{IsInTime, StandsAfter, attempt_of, seen_after, seen_at}
use Rattle.machine.specs.Threads.{access, step_with}
use Rattle.machine.specs.Worlds.{Part, Record, World, answer, new_world, part_after, record_of, step_record, run, step, step_of}
use Rattle.machine.proofs.runs.Explained.{each_ok}
use Rattle.machine.proofs.runs.Serializable.{merge_step, new_invariant, new_merge, start_of}
use Rattle.machine.proofs.merges.Merge.{EntryOk}
use Rattle.machine.proofs.runs.Order.{CompletedAt, SameFirst, StepGoes, fresh, goes}
use Rattle.machine.proofs.parts.Part.{even_words}
use Rattle.machine.proofs.merges.Within.{placed, within_insert, within_self}
use Rattle.machine.proofs.steps.Worlds.{get-set_other, get-set_same, step_invariant}

abbrev pub LowFor : {C : Type 0} → Option (Attempt C) → List Entry → Type 0
LowFor None fs = Unit {0}
LowFor (Some a) fs = AllByRecursion (λ (f : Entry). key f ≤ 2 * a.first) fs

pub all_map : {X : Type 0} (P Q : X → Type 0) (xs : List X) → ((x : X) → P x → Q x) → AllByRecursion P xs → AllByRecursion Q xs
all_map P Q [] f all = tt
all_map P Q (x ∷ xs) f all = (f x all.0, all_map P Q xs f all.1)

pub key_top : (h : History) (t s : ℕ) (x : Record) (b : Bool) → LeftIs h t x b → key_of x.snapshot b ≤ 2 * h.top
key_top h t s x true k = let le = k.0 in omega arith
key_top h t s x false k = let le = k.0 in omega arith

pub recorded_at : {C : Type 0} (a : Attempt C) (base : List ℕ) (x : Record) (o : Option Completed) → CompletedAt a o → step_record base o ≡ Some x → x.snapshot ≡ a.snapshot
recorded_at a base x None g e = absurd (cc)
recorded_at a base x (Some y) g e = let r : record_of base y ≡ x = cc in ap (λ (z : Record). z.snapshot) (sym r) ∙ g

module _ {C : Type 0} (code : C → Effect C) (init : ℕ → C) (bounds : List ℕ) (m0 : List ℕ) (is_memory : IsMemory bounds m0) (fits : FitsCells code bounds) (t : ℕ) where
  pub among : (o o' : Option (Attempt C)) (es fs seen : List Entry) → ((l : List Entry) → IsSubsequence l es → IsSubsequence l fs) → IsSubsequence seen es → IsSubsequence (seen_after o o' es seen) fs
  among None (Some a) es fs seen up m = up es (within_self es)
  among None None es fs seen up m = up seen m
  among (Some a) o' es fs seen up m = up seen m

  pub within_made : (l : List Entry) (u : ℕ) (o : Option Record) (es : List Entry) → IsSubsequence l es → IsSubsequence l (insert_made u o es)
  within_made l u None es w = w
  within_made l u (Some x) es w = within_insert (record { thread = u; item = x }) l es w

  -- the thread's own step, or another's
  low_same : (o : Option (Attempt C)) (es seen : List Entry) → LowFor o seen → LowFor o (seen_after o o es seen)
  low_same None es seen l = tt
  low_same (Some a) es seen l = l

  low_step : (o o' : Option (Attempt C)) (es seen : List Entry) → SameFirst o o' → (o ≡ None → (b : Attempt C) → o' ≡ Some b → AllByRecursion (λ (f : Entry). key f ≤ 2 * b.first) es) → LowFor o seen → LowFor o' (seen_after o o' es seen)
  low_step None None es seen s new l = tt
  low_step None (Some b) es seen s new l = new refl b refl
  low_step (Some a) None es seen s new l = tt
  low_step (Some a) (Some b) es seen s new l = subst (λ n. AllByRecursion (λ (f : Entry). key f ≤ 2 * n) seen) (sym s) l

  pub low_of : (w : World C) (h : History) (u : ℕ) (es seen : List Entry) → Invariant code bounds init m0 h w → AllByRecursion (EntryOk h) es → LowFor (attempt_of (slice_get w.parts t)) seen
      → LowFor (attempt_of (slice_get (step code w u).parts t)) (seen_after (attempt_of (slice_get w.parts t)) (attempt_of (slice_get (step code w u).parts t)) es seen)
  low_of w h u es seen v each low = at (slice_get w.parts u) refl
    where
      keys : h.lock % 2 ≡ 0 → AllByRecursion (λ (f : Entry). key f ≤ 2 * h.lock) es
      keys even =
          let top : h.lock ≡ h.top = (even_words bounds h w.words v.history even).0 in
          all_map (EntryOk h) (λ f. key f ≤ 2 * h.lock) es (λ f ok. let k = key_top h f.thread 0 f.item f.item.took_lock ok.left in omega arith) each

      own : (p : Part C) → slice_get w.parts t ≡ Some p → LowFor (attempt_of (slice_get w.parts t)) seen → LowFor (step_with code p.thread (answer w.lock w.words (access code p.thread))).thread.attempt (seen_after (attempt_of (slice_get w.parts t)) (step_with code p.thread (answer w.lock w.words (access code p.thread))).thread.attempt es seen)
      own p e l =
          let n = step_with code p.thread (answer w.lock w.words (access code p.thread)) in
          rw e (low_step p.thread.attempt n.thread.attempt es seen
          (of_goes p.thread.attempt n.thread.attempt n.completed (goes code p.thread (answer w.lock w.words (access code p.thread))))
          (λ none b some.
          let f = fresh code p.thread w.lock w.words b none some in
          let is : b.first ≡ h.lock = f.1 ∙ v.lock in
          subst (λ k. AllByRecursion (λ (g : Entry). key g ≤ 2 * k) es) (sym is) (keys (ap (λ k. k % 2) (sym v.lock) ∙ f.0)))
          (rw e at l))
        where
          of_goes : (o o' : Option (Attempt C)) (j : Option Completed) → StepGoes o (step_with code p.thread (answer w.lock w.words (access code p.thread))) → SameFirst o (step_with code p.thread (answer w.lock w.words (access code p.thread))).thread.attempt
          of_goes None o' j g = tt
          of_goes (Some a) o' j g = g.0

      at : (o : Option (Part C)) → slice_get w.parts u ≡ o → LowFor (attempt_of (slice_get (step_of code w u o).parts t)) (seen_after (attempt_of (slice_get w.parts t)) (attempt_of (slice_get (step_of code w u o).parts t)) es seen)
      at None e = low_same (attempt_of (slice_get w.parts t)) es seen low
      at (Some p) e = by (eqb_tells t u)
        where
          q : Part C
          q = part_after w.words p (step_with code p.thread (answer w.lock w.words (access code p.thread)))

          by : ((t == u) ≡ true) × (t ≡ u) ⊎ ((t == u) ≡ false) × (t ≢ u) → LowFor (attempt_of (slice_get (set w.parts u q) t)) (seen_after (attempt_of (slice_get w.parts t)) (attempt_of (slice_get (set w.parts u q) t)) es seen)
          by (inl f) =
              let here : slice_get w.parts t ≡ Some p = ap (slice_get w.parts) f.1 ∙ e in
              let now : slice_get (set w.parts u q) t ≡ Some q = ap (slice_get (set w.parts u q)) f.1 ∙ get-set_same w.parts u q p e in
              rw now (own p here low)
          by (inr f) = rw (get-set_other w.parts u t q f.1) (low_same (attempt_of (slice_get w.parts t)) es seen low)

  joined_after : (w : World C) (h : History) (es seen : List Entry) → Invariant code bounds init m0 h w → IsMerge w.parts es → IsSubsequence seen es → LowFor (attempt_of (slice_get w.parts t)) seen → (x : Record) → made_of code w (slice_get w.parts t) ≡ Some x → StandsAfter (record { thread = t; item = x }) seen es
  joined_after w h es seen v m in_es low x j = at (slice_get w.parts t) refl low j
    where
      snap_key : (b : Bool) → 2 * x.snapshot ≤ key_of x.snapshot b
      snap_key true = omega arith
      snap_key false = omega arith

      at : (o : Option (Part C)) → slice_get w.parts t ≡ o → LowFor (attempt_of o) seen → made_of code w o ≡ Some x → StandsAfter (record { thread = t; item = x }) seen es
      at None e l j' = absurd (cc)
      at (Some p) e l j' = by p.thread.attempt refl l (goes code p.thread (answer w.lock w.words (access code p.thread))) (v.parts t p e).now
        where
          by : (o : Option (Attempt C)) → p.thread.attempt ≡ o → LowFor o seen → StepGoes o (step_with code p.thread (answer w.lock w.words (access code p.thread))) → Now code bounds h t (init t) p.records p.base p.thread o → StandsAfter (record { thread = t; item = x }) seen es
          by None ea l' g n = absurd (let none : Some x ≡ None = sym j' ∙ ap (step_record p.base) g.0 in cc)
          by (Some a) ea l' g n =
              let same : x.snapshot ≡ a.snapshot = recorded_at a p.base x _ g.1 j' in
              let first = n.steady.since in
              let k = snap_key x.took_lock in
              placed (record { thread = t; item = x }) 0 es seen m.sorted in_es (all_map (λ f. key f ≤ 2 * a.first) (λ f. key f ≤ key_of x.snapshot x.took_lock) seen (λ f le. omega arith) l')

  over : (ts : List ℕ) (w : World C) (h : History) (es seen : List Entry) → Invariant code bounds init m0 h w → IsMerge w.parts es → IsSubsequence seen es → LowFor (attempt_of (slice_get w.parts t)) seen → (x : Record) → made_of code (run code ts w) (slice_get (run code ts w).parts t) ≡ Some x → StandsAfter (record { thread = t; item = x }) (seen_at code t ts w es seen) (stable_merge code ts w es)
  over [] w h es seen v m in_es low x j = joined_after w h es seen v m in_es low x j
  over (u ∷ us) w h es seen v m in_es low x j =
      let s = step_invariant code bounds init m0 fits w h u v in
      let j1 = made_of code w (slice_get w.parts u) in
      over us (step code w u) s.0 (insert_made u j1 es) (seen_after (attempt_of (slice_get w.parts t)) (attempt_of (slice_get (step code w u).parts t)) es seen) s.1
      (merge_step code init bounds m0 is_memory fits w h u es v m)
      (among (attempt_of (slice_get w.parts t)) (attempt_of (slice_get (step code w u).parts t)) es (insert_made u j1 es) seen (λ l. within_made l u j1 es) in_es)
      (low_of w h u es seen v (each_ok code init bounds m0 w h v es m) low) x j

pub no_low : {C : Type 0} (o : Option (Attempt C)) → LowFor o []
no_low None = tt
no_low (Some a) = tt

pub in_time : {C : Type 0} (code : C → Effect C) (init : ℕ → C) (bounds : List ℕ) (m0 : List ℕ) → IsMemory bounds m0 → FitsCells code bounds → (threads : ℕ) (ts : List ℕ) (t : ℕ) → IsInTime code init m0 threads ts t
in_time code init bounds m0 is_memory fits threads ts t x j =
    over code init bounds m0 is_memory fits t ts (new_world init m0 threads) (start_of m0) [] [] (new_invariant code init bounds m0 is_memory threads) (new_merge code init bounds m0 is_memory threads) tt (no_low (attempt_of (slice_get (new_world init m0 threads).parts t))) x j
