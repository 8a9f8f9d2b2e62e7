-- The main theorem: from the new world every list of steps is serializable.
use Rattle.std.proofs.Common.{◌≡◌, ◌≢◌, ◌<◌, ◌≤◌, ◌+◌, ◌==◌, ◌⊎◌, inl, inr, ℕ, zero, suc, true, false, List, [], ◌∷◌, ◌++◌, Option, None, Some, refl, sym, ◌∙◌, ap, subst, length, slice_get, set, add-zero, zero-add, add-suc, suc-add, append-nil, arith}
use Rattle.std.specs.List.{AllByRecursion}
use Rattle.std.proofs.lemmas.Bool.Decides.{eqb_tells}
use Rattle.std.proofs.lemmas.Option.{slice_get_within}
use Rattle.std.proofs.Math.ListN.{length-set}
use Rattle.syntax.specs.Behaviours.{IsMemory}
use Rattle.bytecode.specs.Effects.{Effect, FitsCells}
use Rattle.bytecode.specs.Sequential.{meaning}
use Rattle.machine.specs.inner.Invariant.{History, Invariant, Ordered, PartOk, bound_of}
use Rattle.machine.specs.Merges.{Entry, IsMerge, insert, insert_made, key_of, made_of, stable_merge, own}
use Rattle.machine.specs.Serializable.{IsSerializable}
use Rattle.machine.specs.Threads.{Next, access, after, step_with}
use Rattle.machine.specs.Worlds.{Part, Record, World, with_record, answer, new_part, new_parts, new_world, part_after, step_record, run, step, step_of}
use Rattle.machine.proofs.runs.Explained.{explained}
use Rattle.machine.proofs.merges.Insert.{insert_all, insert_sorted, keys_before, own-insert_other, own-insert_same}
use Rattle.machine.proofs.steps.Worlds.{get-set_other, get-set_same, run_invariant, step_invariant}

-- a new thread's part
pub new_part_at : {C : Type 0} (init : ℕ → C) (b n t : ℕ) (p : Part C) → slice_get (new_parts init b n) t ≡ Some p → p ≡ new_part (init (t + b))
new_part_at init b zero t p e = absurd (cc)
new_part_at init b (suc n) zero p e = let r : new_part (init b) ≡ p = cc in sym r ∙ ap (λ k. new_part (init k)) (sym (zero-add b))
new_part_at init b (suc n) (suc t) p e = new_part_at init (suc b) n t p e ∙ ap (λ k. new_part (init k)) (add-suc t b ∙ sym (suc-add t b))

abbrev pub start_of : List ℕ → History
start_of m0 = record { lock = 0; top = 0; mem = λ s. m0; owner = λ s. 0; holder = None; stored = [] }

module _ {C : Type 0} (code : C → Effect C) (init : ℕ → C) (bounds : List ℕ) (m0 : List ℕ) (is_memory : IsMemory bounds m0) where
  new_part_ok : (t : ℕ) → PartOk code bounds (start_of m0) t (init t) (new_part (init t))
  new_part_ok t = record {
    each = tt;
    ordered = omega arith;
    complete = λ s even lt o. absurd (omega arith);
    now = ((0, λ more. refl), λ e. absurd (cc));
  }

  pub new_invariant : (threads : ℕ) → Invariant code bounds init m0 (start_of m0) (new_world init m0 threads)
  new_invariant threads = record {
    history = record { even = refl; lock = (refl, refl); contents = refl; memories = λ s le. is_memory; stored_words = tt };
    lock = refl;
    first = refl;
    holder = λ t e. absurd (cc);
    owners = λ s even lt. absurd (omega arith);
    parts = λ t p e. subst (PartOk code bounds (start_of m0) t (init t)) (sym (new_part_at init 0 threads t p e ∙ ap (λ k. new_part (init k)) (add-zero t))) (new_part_ok t);
  }

  pub new_merge : (threads : ℕ) → IsMerge (new_world init m0 threads).parts []
  new_merge threads = record {
    sorted = tt;
    below = tt;
    own_records = λ t p e. ap (λ (q : Part C). q.records) (sym (new_part_at init 0 threads t p e));
  }

  -- a merge with what takes effect in a step: q is the part of thread t after it
  module _ (w : World C) (t : ℕ) (es : List Entry) (m : IsMerge w.parts es) (p : Part C) (here : slice_get w.parts t ≡ Some p) (q : Part C) where
    below_after : (fs : List Entry) → AllByRecursion (λ (e : Entry). e.thread < length w.parts) fs → AllByRecursion (λ (e : Entry). e.thread < length (set w.parts t q)) fs
    below_after fs all = subst (λ n. AllByRecursion (λ (e : Entry). e.thread < n) fs) (sym (length-set w.parts t q)) all

    own_after : (fs : List Entry) → own t fs ≡ q.records → ((u : ℕ) → u ≢ t → own u fs ≡ own u es) → (u : ℕ) (r : Part C) → slice_get (set w.parts t q) u ≡ Some r → own u fs ≡ r.records
    own_after fs mine others u r e = go (eqb_tells u t)
      where
        go : ((u == t) ≡ true) × (u ≡ t) ⊎ ((u == t) ≡ false) × (u ≢ t) → own u fs ≡ r.records
        go (inl f) =
            let same : Some q ≡ Some r = sym (get-set_same w.parts t q p here) ∙ ap (slice_get (set w.parts t q)) (sym f.1) ∙ e in
            let is : q ≡ r = cc in
            ap (λ n. own n fs) f.1 ∙ mine ∙ ap (λ (x : Part C). x.records) is
        go (inr f) = others u f.1 ∙ m.own_records u r (sym (get-set_other w.parts t u q f.1) ∙ e)

    merge_with : (o : Option Record) (bound : ℕ) → q.records ≡ with_record p.records o → Ordered 0 q.records bound → IsMerge (set w.parts t q) (insert_made t o es)
    merge_with None bound is ord = record { sorted = m.sorted; below = below_after es m.below; own_records = own_after es (m.own_records t p here ∙ sym is) (λ u ne. refl) }
    merge_with (Some x) bound is ord =
        let e : Entry = record { thread = t; item = x } in
        let keys = keys_before 0 p.records x bound (subst (λ l. Ordered 0 l bound) is ord) in
        record {
          sorted = insert_sorted 0 e es (omega arith) m.sorted;
          below = below_after (insert e es) (insert_all (λ (f : Entry). f.thread < length w.parts) e es (slice_get_within w.parts t p here) m.below);
          own_records = own_after (insert e es)
              (own-insert_same t 0 e es refl m.sorted (subst (AllByRecursion (λ (y : Record). key_of y.snapshot y.took_lock ≤ key_of x.snapshot x.took_lock)) (sym (m.own_records t p here)) keys)
              ∙ ap (λ l. l ++ x ∷ []) (m.own_records t p here) ∙ sym is)
              (λ u ne. own-insert_other u e es (λ f. ne (sym f)));
        }

  -- a thread's own entries only grow
  pub own_grows : (fits : FitsCells code bounds) (w : World C) (h : History) (u t : ℕ) (es : List Entry) → Invariant code bounds init m0 h w → IsMerge w.parts es → (further : List Record) × (own t (insert_made u (made_of code w (slice_get w.parts u)) es) ≡ own t es ++ further)
  own_grows fits w h u t es v m = at (slice_get w.parts u) refl (step_invariant code bounds init m0 fits w h u v)
    where
      none : (further : List Record) × (own t es ≡ own t es ++ further)
      none = ([], sym (append-nil (own t es)))

      at : (o : Option (Part C)) → slice_get w.parts u ≡ o → (k : History) × Invariant code bounds init m0 k (step code w u) → (further : List Record) × (own t (insert_made u (made_of code w o) es) ≡ own t es ++ further)
      at None e later = none
      at (Some p) e later = by (step_record p.base n.completed) (λ x is. subst (λ l. Ordered 0 l (bound_of later.0 n.thread.attempt)) (ap (with_record p.records) is) ok.ordered)
        where
          n : Next C
          n = step_with code p.thread (answer w.lock w.words (access code p.thread))

          ok : PartOk code bounds later.0 u (init u) (part_after w.words p n)
          ok = later.1.parts u (part_after w.words p n) (ap (λ o'. slice_get (step_of code w u o').parts u) e ∙ get-set_same w.parts u (part_after w.words p n) p e)

          by : (o : Option Record) → ((x : Record) → o ≡ Some x → Ordered 0 (p.records ++ x ∷ []) (bound_of later.0 n.thread.attempt)) → (further : List Record) × (own t (insert_made u o es) ≡ own t es ++ further)
          by None ord = none
          by (Some x) ord = or_other (eqb_tells u t)
            where
              keys : AllByRecursion (λ (y : Record). key_of y.snapshot y.took_lock ≤ key_of x.snapshot x.took_lock) p.records
              keys = keys_before 0 p.records x (bound_of later.0 n.thread.attempt) (ord x refl)

              or_other : ((u == t) ≡ true) × (u ≡ t) ⊎ ((u == t) ≡ false) × (u ≢ t) → (further : List Record) × (own t (insert_made u (Some x) es) ≡ own t es ++ further)
              or_other (inl f) = (
                x ∷ [],
                subst (λ r. own r (insert_made u (Some x) es) ≡ own r es ++ x ∷ []) f.1
                    (own-insert_same u 0 (record { thread = u; item = x }) es refl m.sorted (subst (AllByRecursion (λ (y : Record). key_of y.snapshot y.took_lock ≤ key_of x.snapshot x.took_lock)) (sym (m.own_records u p e)) keys)),
              )
              or_other (inr f) = ([], own-insert_other t (record { thread = u; item = x }) es f.1 ∙ sym (append-nil (own t es)))

  module _ (fits : FitsCells code bounds) where
    pub merge_step : (w : World C) (h : History) (t : ℕ) (es : List Entry) → Invariant code bounds init m0 h w → IsMerge w.parts es → IsMerge (step code w t).parts (insert_made t (made_of code w (slice_get w.parts t)) es)
    merge_step w h t es v m = at (slice_get w.parts t) refl (step_invariant code bounds init m0 fits w h t v)
      where
        at : (o : Option (Part C)) → slice_get w.parts t ≡ o → (k : History) × Invariant code bounds init m0 k (step code w t) → IsMerge (step_of code w t o).parts (insert_made t (made_of code w o) es)
        at None e after = m
        at (Some p) e after =
            let n = step_with code p.thread (answer w.lock w.words (access code p.thread)) in
            let q : Part C = part_after w.words p n in
            let ok = after.1.parts t q (ap (λ o. slice_get (step_of code w t o).parts t) e ∙ get-set_same w.parts t q p e) in
            merge_with w t es m p e q (step_record p.base n.completed) _ refl ok.ordered

    run_merge : (ts : List ℕ) (w : World C) (h : History) (es : List Entry) → Invariant code bounds init m0 h w → IsMerge w.parts es → IsMerge (run code ts w).parts (stable_merge code ts w es)
    run_merge [] w h es v m = m
    run_merge (t ∷ ts) w h es v m =
        let s = step_invariant code bounds init m0 fits w h t v in
        run_merge ts (step code w t) s.0 (insert_made t (made_of code w (slice_get w.parts t)) es) s.1 (merge_step w h t es v m)

  pub step_count : (w : World C) (t : ℕ) → length (step code w t).parts ≡ length w.parts
  step_count w t = at (slice_get w.parts t)
    where
      at : (o : Option (Part C)) → length (step_of code w t o).parts ≡ length w.parts
      at None = refl
      at (Some p) = length-set w.parts t _

  run_count : (ts : List ℕ) (w : World C) → length (run code ts w).parts ≡ length w.parts
  run_count [] w = refl
  run_count (t ∷ ts) w = run_count ts (step code w t) ∙ step_count w t

  new_count : (b n : ℕ) → length (new_parts init b n) ≡ n
  new_count b zero = refl
  new_count b (suc n) = ap suc (new_count (suc b) n)

  -- the main theorem
  pub serializable : FitsCells code bounds → (threads : ℕ) (ts : List ℕ) → IsSerializable code init (meaning code init) bounds m0 threads ts
  serializable fits threads ts =
      let r = run_invariant code bounds init m0 fits ts (new_world init m0 threads) (start_of m0) (new_invariant threads) in
      record {
        is_merge = run_merge fits ts (new_world init m0 threads) (start_of m0) [] (new_invariant threads) (new_merge threads);
        each_merge = λ es m. explained code init bounds m0 (run code ts (new_world init m0 threads)) r.0 r.1 es m threads (run_count ts (new_world init m0 threads) ∙ new_count 0 threads);
      }
