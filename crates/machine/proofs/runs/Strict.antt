-- What a thread begins later stands behind all that has taken effect.
use Rattle.std.proofs.Common.{◌≡◌, ◌≢◌, ◌≤◌, ◌*◌, ◌==◌, ◌⊎◌, inl, inr, ℕ, Bool, true, false, List, [], ◌∷◌, ◌++◌, Option, None, Some, append-nil, append_assoc, refl, sym, ◌∙◌, ap, subst, slice_get, set, arith}
use Rattle.std.proofs.lemmas.Bool.Decides.{eqb_tells}
use Rattle.syntax.specs.Behaviours.{Behaviour, IsMemory}
use Rattle.bytecode.specs.Effects.{Effect, FitsCells}
use Rattle.norec_core.specs.Attempts.{Attempt}
use Rattle.machine.specs.inner.Invariant.{History, Invariant, Now}
use Rattle.machine.specs.Merges.{Entry, insert_made, key, key_of, made_of, stable_merge}
use Rattle.machine.specs.Serializable.{IsSerializable, attempt_of, merge_after, world_after}
use Rattle.machine.specs.Strict.{AllFrom, IsStrictlySerializable, RecordsAreLater, StandsBehind}
use Rattle.machine.specs.Threads.{Next, access, step_with}
use Rattle.machine.specs.Worlds.{Part, Record, World, answer, new_world, part_after, step_record, run, step, step_of, with_record}
use Rattle.machine.proofs.merges.Merge.{EntryOk}
use Rattle.machine.proofs.merges.Splits.{SplitAt, split_insert}
use Rattle.machine.proofs.merges.Within.{within_self}
use Rattle.machine.proofs.parts.Frame.{lock_bounds}
use Rattle.machine.proofs.runs.Explained.{each_ok}
use Rattle.machine.proofs.runs.Extended.{merged-append}
use Rattle.machine.proofs.runs.InTime.{all_map, key_top, recorded_at}
use Rattle.machine.proofs.runs.Order.{SameFirst, StepGoes, fresh, goes}
use Rattle.machine.proofs.runs.Serializable.{new_invariant, serializable, start_of}
use Rattle.machine.proofs.steps.Moving.{step_lock}
use Rattle.machine.proofs.steps.Worlds.{get-set_other, get-set_same, run_invariant, step_invariant}

module _ {C : Type 0} (code : C → Effect C) (init : ℕ → C) (bounds : List ℕ) (m0 : List ℕ) (is_memory : IsMemory bounds m0) (fits : FitsCells code bounds) (t top : ℕ) (seen : List Entry) where
  -- the attempt began at top or later
  abbrev LateFor : Option (Attempt C) → Type 0
  LateFor None = Unit {0}
  LateFor (Some a) = top ≤ a.first

  late_step : (o o' : Option (Attempt C)) → SameFirst o o' → (o ≡ None → (b : Attempt C) → o' ≡ Some b → top ≤ b.first) → LateFor o → LateFor o'
  late_step o None s new l = tt
  late_step None (Some b) s new l = new refl b refl
  late_step (Some a) (Some b) s new l = subst (λ n. top ≤ n) (sym s) l

  of_goes : (o : Option (Attempt C)) (n : Next C) → StepGoes o n → SameFirst o n.thread.attempt
  of_goes None n g = tt
  of_goes (Some a) n g = g.0

  late_of : (w : World C) (u : ℕ) → top ≤ w.lock → LateFor (attempt_of (slice_get w.parts t)) → LateFor (attempt_of (slice_get (step code w u).parts t))
  late_of w u up late = at (slice_get w.parts u) refl
    where
      at : (o : Option (Part C)) → slice_get w.parts u ≡ o → LateFor (attempt_of (slice_get (step_of code w u o).parts t))
      at None e = late
      at (Some p) e = by (eqb_tells t u)
        where
          by : ((t == u) ≡ true) × (t ≡ u) ⊎ ((t == u) ≡ false) × (t ≢ u) → LateFor (attempt_of (slice_get (set w.parts u (part_after w.words p (step_with code p.thread (answer w.lock w.words (access code p.thread))))) t))
          by (inl f) =
              let q : Part C = part_after w.words p (step_with code p.thread (answer w.lock w.words (access code p.thread))) in
              let here : slice_get w.parts t ≡ Some p = ap (slice_get w.parts) f.1 ∙ e in
              let now : slice_get (set w.parts u q) t ≡ Some q = ap (slice_get (set w.parts u q)) f.1 ∙ get-set_same w.parts u q p e in
              rw now (late_step p.thread.attempt q.thread.attempt (of_goes p.thread.attempt _ (goes code p.thread (answer w.lock w.words (access code p.thread))))
              (λ none b some. let g = fresh code p.thread w.lock w.words b none some in let is : b.first ≡ w.lock = g.1 in omega (arith, is, up))
              (subst (λ o. LateFor (attempt_of o)) here late))
          by (inr f) = rw (get-set_other w.parts u t (part_after w.words p (step_with code p.thread (answer w.lock w.words (access code p.thread)))) f.1) late

  -- what takes effect is late if it is thread t's
  late_made : (w : World C) (h : History) (u : ℕ) → Invariant code bounds init m0 h w → LateFor (attempt_of (slice_get w.parts t)) → (x : Record) → made_of code w (slice_get w.parts u) ≡ Some x → u ≡ t → 2 * top ≤ key_of x.snapshot x.took_lock
  late_made w h u v late x j same = at (slice_get w.parts u) refl j
    where
      snap_key : (b : Bool) → 2 * x.snapshot ≤ key_of x.snapshot b
      snap_key true = omega arith
      snap_key false = omega arith

      at : (o : Option (Part C)) → slice_get w.parts u ≡ o → made_of code w o ≡ Some x → 2 * top ≤ key_of x.snapshot x.took_lock
      at None e j' = absurd (cc)
      at (Some p) e j' = by p.thread.attempt refl (subst (λ o. LateFor (attempt_of o)) (ap (slice_get w.parts) (sym same) ∙ e) late) (goes code p.thread (answer w.lock w.words (access code p.thread))) (v.parts u p e).now
        where
          by : (o : Option (Attempt C)) → p.thread.attempt ≡ o → LateFor o → StepGoes o (step_with code p.thread (answer w.lock w.words (access code p.thread))) → Now code bounds h u (init u) p.records p.base p.thread o → 2 * top ≤ key_of x.snapshot x.took_lock
          by None ea l g n = absurd (let none : Some x ≡ None = sym j' ∙ ap (step_record p.base) g.0 in cc)
          by (Some a) ea l g n =
              let is : x.snapshot ≡ a.snapshot = recorded_at a p.base x _ g.1 j' in
              let since : a.first ≤ a.snapshot = n.steady.since in
              let k = snap_key x.took_lock in
              omega (arith, is, since, l, k)

  split_made : (w : World C) (h : History) (u : ℕ) (es : List Entry) → Invariant code bounds init m0 h w → LateFor (attempt_of (slice_get w.parts t)) → SplitAt (2 * top) t seen es → SplitAt (2 * top) t seen (insert_made u (made_of code w (slice_get w.parts u)) es)
  split_made w h u es v late s = at (made_of code w (slice_get w.parts u)) (late_made w h u v late)
    where
      at : (o : Option Record) → ((x : Record) → o ≡ Some x → u ≡ t → 2 * top ≤ key_of x.snapshot x.took_lock) → SplitAt (2 * top) t seen (insert_made u o es)
      at None l = s
      at (Some x) l = split_insert (2 * top) t seen es (record { thread = u; item = x }) s (l x refl)

  over : (us : List ℕ) (w : World C) (h : History) (es : List Entry) → Invariant code bounds init m0 h w → top ≤ w.lock → LateFor (attempt_of (slice_get w.parts t)) → SplitAt (2 * top) t seen es → SplitAt (2 * top) t seen (stable_merge code us w es)
  over [] w h es v up late s = s
  over (u ∷ us) w h es v up late s =
      let k = step_invariant code bounds init m0 fits w h u v in
      let l : w.lock ≤ (step code w u).lock = step_lock code init bounds m0 fits w h u v in
      over us (step code w u) k.0 (insert_made u (made_of code w (slice_get w.parts u)) es) k.1 (omega (arith, up, l)) (late_of w u up late) (split_made w h u es v late s)

module _ {C : Type 0} (code : C → Effect C) (init : ℕ → C) (bounds : List ℕ) (m0 : List ℕ) (is_memory : IsMemory bounds m0) (fits : FitsCells code bounds) where
  behind : (threads : ℕ) (ts us : List ℕ) (t : ℕ) (p : Part C) → slice_get (world_after code init m0 threads ts).parts t ≡ Some p → p.thread.attempt ≡ None → StandsBehind t (merge_after code init m0 threads ts) (merge_after code init m0 threads (ts ++ us))
  behind threads ts us t p here none =
      let w0 : World C = new_world init m0 threads in
      let w : World C = run code ts w0 in
      let es : List Entry = stable_merge code ts w0 [] in
      let r = run_invariant code bounds init m0 fits ts w0 (start_of m0) (new_invariant code init bounds m0 is_memory threads) in
      let m = (serializable code init bounds m0 is_memory fits threads ts).is_merge in
      let h = r.0 in
      let up = (lock_bounds h h.holder r.1.history.lock).0 in
      let same : w.lock ≡ h.lock = r.1.lock in
      let low = all_map (EntryOk h) (λ f. key f ≤ 2 * h.top) es (λ f ok. key_top h f.thread 0 f.item f.item.took_lock ok.left) (each_ok code init bounds m0 w h r.1 es m) in
      let first : SplitAt (2 * h.top) t es es = record {
        behind = record { front = es; rest = []; place = sym (append-nil es); all = within_self es; mine = refl };
        low = low;
        high = tt;
      } in
      let idle : attempt_of (slice_get w.parts t) ≡ None = ap attempt_of here ∙ none in
      subst (StandsBehind t es) (sym (merged-append code init bounds m0 is_memory fits ts us w0 []))
      (over code init bounds m0 is_memory fits t h.top es us w h es r.1 (omega (arith, up, same)) (subst (LateFor code init bounds m0 is_memory fits t h.top es) (sym idle) tt) first).behind

  pub strictly_serializable : (does : Behaviour) (threads : ℕ) (ts us : List ℕ) → IsSerializable code init does bounds m0 threads (ts ++ us) → IsStrictlySerializable code init does bounds m0 threads ts us
  strictly_serializable does threads ts us s = record { explained = s.each_merge _ s.is_merge; behind = behind threads ts us }

-- the records of a thread that had no attempt
all_more : (n : ℕ) (xs : List Record) (x : Record) → AllFrom n xs → n ≤ x.snapshot → AllFrom n (xs ++ x ∷ [])
all_more n [] x f g = (g, tt)
all_more n (y ∷ ys) x f g = (f.0, all_more n ys x f.1 g)

run-append : {C : Type 0} (code : C → Effect C) (ts us : List ℕ) (w : World C) → run code (ts ++ us) w ≡ run code us (run code ts w)
run-append code [] us w = refl
run-append code (t ∷ ts) us w = run-append code ts us (step code w t)

module _ {C : Type 0} (code : C → Effect C) (init : ℕ → C) (bounds : List ℕ) (m0 : List ℕ) (is_memory : IsMemory bounds m0) (fits : FitsCells code bounds) (t top : ℕ) (base : List Record) where
  abbrev Late : Option (Attempt C) → Type 0
  Late o = LateFor code init bounds m0 is_memory fits t top [] o

  snap_made : (w : World C) (h : History) (u : ℕ) → Invariant code bounds init m0 h w → (p : Part C) → slice_get w.parts u ≡ Some p → Late p.thread.attempt → (x : Record) → step_record p.base (step_with code p.thread (answer w.lock w.words (access code p.thread))).completed ≡ Some x → top ≤ x.snapshot
  snap_made w h u v p e late x j = by p.thread.attempt refl late (goes code p.thread (answer w.lock w.words (access code p.thread))) (v.parts u p e).now
    where
      by : (o : Option (Attempt C)) → p.thread.attempt ≡ o → Late o → StepGoes o (step_with code p.thread (answer w.lock w.words (access code p.thread))) → Now code bounds h u (init u) p.records p.base p.thread o → top ≤ x.snapshot
      by None ea l g n = absurd (let none : Some x ≡ None = sym j ∙ ap (step_record p.base) g.0 in cc)
      by (Some a) ea l g n =
          let is : x.snapshot ≡ a.snapshot = recorded_at a p.base x _ g.1 j in
          let since : a.first ≤ a.snapshot = n.steady.since in
          omega (arith, is, since, l)

  -- the thread's part, whose further records are late
  abbrev Further : World C → Type 0
  Further w = (q : Part C) × (slice_get w.parts t ≡ Some q) × (more : List Record) × (q.records ≡ base ++ more) × AllFrom top more

  abbrev next : World C → Part C → Part C
  next w p = part_after w.words p (step_with code p.thread (answer w.lock w.words (access code p.thread)))

  further_step : (w : World C) (h : History) (u : ℕ) → Invariant code bounds init m0 h w → Late (attempt_of (slice_get w.parts t)) → Further w → Further (step code w u)
  further_step w h u v late f = at (slice_get w.parts u) refl
    where
      with_one : (q : Part C) (o : Option Record) → ((x : Record) → o ≡ Some x → top ≤ x.snapshot) → (more : List Record) → q.records ≡ base ++ more → AllFrom top more → (all : List Record) × (with_record q.records o ≡ base ++ all) × AllFrom top all
      with_one q None new more is all = (more, is, all)
      with_one q (Some x) new more is all = (more ++ x ∷ [], ap (λ (l : List Record). l ++ x ∷ []) is ∙ append_assoc base more (x ∷ []), all_more top more x all (new x refl))

      at : (o : Option (Part C)) → slice_get w.parts u ≡ o → Further (step_of code w u o)
      at None e = f
      at (Some p) e = by (eqb_tells t u)
        where
          by : ((t == u) ≡ true) × (t ≡ u) ⊎ ((t == u) ≡ false) × (t ≢ u) → Further (step_of code w u (Some p))
          by (inl g) =
              let here : slice_get w.parts t ≡ Some p = ap (slice_get w.parts) g.1 ∙ e in
              let both : Some f.0 ≡ Some p = sym f.1 ∙ here in
              let same : f.0 ≡ p = cc in
              let one = with_one p (step_record p.base (step_with code p.thread (answer w.lock w.words (access code p.thread))).completed)
              (λ x j. snap_made w h u v p e (subst (λ o. Late (attempt_of o)) here late) x j)
              f.2 (ap (λ (q : Part C). q.records) (sym same) ∙ f.3) f.4 in
              (next w p, ap (slice_get (set w.parts u (next w p))) g.1 ∙ get-set_same w.parts u (next w p) p e, one.0, one.1, one.2)
          by (inr g) = (f.0, get-set_other w.parts u t (next w p) g.1 ∙ f.1, f.2, f.3, f.4)

  further : (us : List ℕ) (w : World C) (h : History) → Invariant code bounds init m0 h w → top ≤ w.lock → Late (attempt_of (slice_get w.parts t)) → Further w → Further (run code us w)
  further [] w h v up late f = f
  further (u ∷ us) w h v up late f =
      let k = step_invariant code bounds init m0 fits w h u v in
      let l : w.lock ≤ (step code w u).lock = step_lock code init bounds m0 fits w h u v in
      further us (step code w u) k.0 k.1 (omega (arith, up, l)) (late_of code init bounds m0 is_memory fits t top [] w u up late) (further_step w h u v late f)

module _ {C : Type 0} (code : C → Effect C) (init : ℕ → C) (bounds : List ℕ) (m0 : List ℕ) (is_memory : IsMemory bounds m0) (fits : FitsCells code bounds) where
  pub records_are_later : (threads : ℕ) (ts us : List ℕ) → RecordsAreLater code init m0 threads ts us
  records_are_later threads ts us t p q here none there =
      let w0 : World C = new_world init m0 threads in
      let w : World C = run code ts w0 in
      let r = run_invariant code bounds init m0 fits ts w0 (start_of m0) (new_invariant code init bounds m0 is_memory threads) in
      let idle : attempt_of (slice_get w.parts t) ≡ None = ap attempt_of here ∙ none in
      let f = further code init bounds m0 is_memory fits t w.lock p.records us w r.0 r.1 (omega arith) (subst (LateFor code init bounds m0 is_memory fits t w.lock []) (sym idle) tt) (p, here, [], sym (append-nil p.records), tt) in
      let both : Some f.0 ≡ Some q = sym f.1 ∙ ap (λ (v : World C). slice_get v.parts t) (sym (run-append code ts us w0)) ∙ there in
      let same : f.0 ≡ q = cc in
      (f.2, ap (λ (x : Part C). x.records) (sym same) ∙ f.3, f.4)
