-- Each order of the source shows a run.
use Rattle.std.proofs.Common.{◌≡◌, ◌≢◌, ◌==◌, ◌⊎◌, inl, inr, ℕ, zero, suc, ◌<◌, ◌≤◌, ◌+◌, true, false, List, [], ◌∷◌, ◌++◌, map, length, drop, replicate, Some, slice_get, slice_set, slice_index_or, refl, sym, ap, ap₂, ◌∙◌, subst, arith, append-nil}
use Rattle.std.specs.Prelude.{All}
use Rattle.std.specs.List.{AllByRecursion}
use Rattle.std.proofs.lemmas.List.{length-append}
use Rattle.std.proofs.lemmas.Bool.Decides.{eqb_tells}
use Rattle.std.proofs.Math.ListN.{length-set}
use Rattle.std.proofs.Math.Seq.{drop-append_seam}
use Rattle.syntax.specs.Tree.{Program}
use Rattle.syntax.specs.Names.{initial_memory}
use Rattle.syntax.specs.declared.thread_end.Halt.TheVariants.{Trapped, Wants, Spent, Astray}
use Rattle.syntax.specs.Behaviours.{Memory, ThreadEnd, Ended, Stopped, Step, IsChained, of_thread, founds_of, lefts_of, last_memory}
use Rattle.syntax.specs.Orders.{Progress, entries, entry, finds, if_wanting, last_left, outcomes}
use Rattle.syntax.specs.Threads.{thread}
use Rattle.syntax.specs.Laws.{IsOutcomePrefix, GoesOn, LeftAsManyAsFound, NeverMoreLeft}
use Rattle.syntax.specs.OrderLaws.{OrdersAreRuns, ShowsRun}
use Rattle.syntax.proofs.ordering.RunOrders.{as_many, founds_own, is_wanting, last_after, lefts_own, of_other}

index_set_same : {X : Type 0} (xs : List X) (t : ℕ) (x d : X) → t < length xs → slice_index_or (slice_set xs t x) t d ≡ x
index_set_same [] t x d lt = absurd (omega (arith, lt))
index_set_same (y ∷ ys) zero x d lt = refl
index_set_same (y ∷ ys) (suc t) x d lt = index_set_same ys t x d (omega (arith, lt))

index_set_other : {X : Type 0} (xs : List X) (t u : ℕ) (x d : X) → u ≢ t → slice_index_or (slice_set xs t x) u d ≡ slice_index_or xs u d
index_set_other [] t u x d ne = refl
index_set_other (y ∷ ys) zero zero x d ne = absurd (ne refl)
index_set_other (y ∷ ys) zero (suc u) x d ne = refl
index_set_other (y ∷ ys) (suc t) zero x d ne = refl
index_set_other (y ∷ ys) (suc t) (suc u) x d ne = index_set_other ys t u x d (λ e. ne (ap suc e))

length_replicate : {X : Type 0} (n : ℕ) (x : X) → length (replicate n x) ≡ n
length_replicate zero x = refl
length_replicate (suc n) x = ap suc (length_replicate n x)

index_replicate : {X : Type 0} (n t : ℕ) (x : X) → slice_index_or (replicate n x) t x ≡ x
index_replicate zero t x = refl
index_replicate (suc n) zero x = refl
index_replicate (suc n) (suc t) x = index_replicate n t x

outcomes_index : (p : Program) (ticks from : ℕ) (xs : List (List Memory)) (t : ℕ) → t < length xs → slice_get (outcomes (thread p) ticks from xs) t ≡ Some (thread p (from + t) (slice_index_or xs t []) ticks)
outcomes_index p ticks from [] t lt = absurd (omega (arith, lt))
outcomes_index p ticks from (x ∷ xs) zero lt = let e : from ≡ from + 0 = omega arith in ap (λ k. Some (thread p k x ticks)) e
outcomes_index p ticks from (x ∷ xs) (suc t) lt =
    let e : from + 1 + t ≡ from + suc t = omega arith in
    outcomes_index p ticks (from + 1) xs t (omega (arith, lt)) ∙ ap (λ k. Some (thread p k (slice_index_or xs t []) ticks)) e

outcomes_length : (p : Program) (ticks from : ℕ) (xs : List (List Memory)) → length (outcomes (thread p) ticks from xs) ≡ length xs
outcomes_length p ticks from [] = refl
outcomes_length p ticks from (x ∷ xs) = ap suc (outcomes_length p ticks (from + 1) xs)

named_more : (threads : ℕ) (run : List Step) (s : Step) → AllByRecursion (λ (x : Step). x.thread < threads) run → s.thread < threads → AllByRecursion (λ (x : Step). x.thread < threads) (run ++ s ∷ [])
named_more threads [] s a lt = (lt, tt)
named_more threads (x ∷ run) s a lt = (a.0, named_more threads run s a.1 lt)

chained_more : (m : Memory) (run : List Step) (s : Step) → IsChained m run → s.found ≡ last_memory m run → IsChained m (run ++ s ∷ [])
chained_more m [] s c e = (e, tt)
chained_more m (x ∷ run) s c e = (c.0, chained_more x.left run s c.1 e)

none : {X : Type 0} (xs : List X) → length xs ≤ 0 → xs ≡ []
none [] le = refl
none (x ∷ xs) le = absurd (omega (arith, le))

passed_over : (end : ThreadEnd) (x y : Progress) (p : Program) (ticks : ℕ) → end ≢ Stopped Wants → if_wanting (thread p) ticks end x y ≡ y
passed_over Ended x y p ticks n = refl
passed_over (Stopped Wants) x y p ticks n = absurd (n refl)
passed_over (Stopped Spent) x y p ticks n = refl
passed_over (Stopped Astray) x y p ticks n = refl
passed_over (Stopped (Trapped k)) x y p ticks n = refl

module _ (left_as_many : LeftAsManyAsFound) (never_more : NeverMoreLeft) (goes_on : GoesOn) (p : Program) (threads ticks : ℕ) where
  abbrev m0 : Memory
  m0 = initial_memory p

  -- a thread has found what it found in the run, and one memory more where it has left none there
  record Has (run : List Step) (t : ℕ) (founds : List Memory) : Type 0 where
    extra : List Memory
    is : founds ≡ founds_of t run ++ extra
    one : length extra ≤ 1
    lefts : (thread p t (founds_of t run ++ extra) ticks).lefts ≡ lefts_of t run
    alone : (thread p t (founds_of t run) ticks).lefts ≡ lefts_of t run

  record Shown (run : List Step) (now : Progress) : Type 0 where
    memory : now.memory ≡ last_memory m0 run
    named : AllByRecursion (λ (s : Step). s.thread < threads) run
    chained : IsChained m0 run
    count : length now.founds ≡ threads
    each : (t : ℕ) → t < threads → Has run t (slice_index_or now.founds t [])

  -- one that wants a memory has found none more
  no_extra : (run : List Step) (t : ℕ) (founds : List Memory) (h : Has run t founds) → (thread p t founds ticks).end ≡ Stopped Wants → h.extra ≡ []
  no_extra run t founds h w =
      let l : length (thread p t (founds_of t run ++ h.extra) ticks).lefts ≡ length (founds_of t run ++ h.extra) = left_as_many p t (founds_of t run ++ h.extra) ticks (ap (λ f. (thread p t f ticks).end) (sym h.is) ∙ w) in
      let a : length (founds_of t run ++ h.extra) ≡ length (founds_of t run) + length h.extra = length-append (founds_of t run) h.extra in
      let b : length (thread p t (founds_of t run ++ h.extra) ticks).lefts ≡ length (lefts_of t run) = ap length h.lefts in
      let c : length (lefts_of t run) ≡ length (founds_of t run) = as_many (of_thread t run) in
      none h.extra (omega (arith, l, a, b, c))

  module _ (run : List Step) (now : Progress) (t : ℕ) (lt : t < threads) (s : Shown run now) where
    h : Has run t (slice_index_or now.founds t [])
    h = s.each t lt

    abbrev f : List Memory
    f = founds_of t run

    abbrev M : Memory
    M = now.memory

    abbrev more : List Memory
    more = drop (length (thread p t f ticks).lefts) (thread p t (f ++ M ∷ []) ticks).lefts

    abbrev next : Progress
    next = record { memory = last_left M more; founds = slice_set now.founds t (f ++ M ∷ []) }

    b : IsOutcomePrefix (thread p t f ticks) (thread p t (f ++ M ∷ []) (ticks + 0))
    b = goes_on p t f (M ∷ []) ticks 0

    begins : (thread p t (f ++ M ∷ []) ticks).lefts ≡ (thread p t f ticks).lefts ++ b.further
    begins = let n : ticks ≡ ticks + 0 = omega arith in ap (λ k. (thread p t (f ++ M ∷ []) k).lefts) n ∙ b.lefts

    further_is : more ≡ b.further
    further_is = ap (drop (length (thread p t f ticks).lefts)) begins ∙ drop-append_seam (thread p t f ticks).lefts b.further

    at_most_one : length b.further ≤ 1
    at_most_one =
        let a : length (thread p t (f ++ M ∷ []) ticks).lefts ≤ length (f ++ M ∷ []) = never_more p t (f ++ M ∷ []) ticks in
        let c : length (f ++ M ∷ []) ≡ length f + 1 = length-append f (M ∷ []) in
        let d : length (thread p t (f ++ M ∷ []) ticks).lefts ≡ length ((thread p t f ticks).lefts ++ b.further) = ap length begins in
        let e : length ((thread p t f ticks).lefts ++ b.further) ≡ length (thread p t f ticks).lefts + length b.further = length-append (thread p t f ticks).lefts b.further in
        let g : length (thread p t f ticks).lefts ≡ length (lefts_of t run) = ap length h.alone in
        let k : length (lefts_of t run) ≡ length f = as_many (of_thread t run) in
        omega (arith, a, c, d, e, g, k)

    within : t < length now.founds
    within = let c : length now.founds ≡ threads = s.count in omega (arith, c, lt)

    -- another thread's, and its own
    found_now : (later : List Step) → ((u : ℕ) → u ≢ t → of_thread u later ≡ of_thread u run) → Has later t (f ++ M ∷ []) → (u : ℕ) → u < threads → Has later u (slice_index_or (slice_set now.founds t (f ++ M ∷ [])) u [])
    found_now later others mine u below = by (eqb_tells u t)
      where
        moved : (ss : List Step) → of_thread u run ≡ ss → Has run u (slice_index_or now.founds u []) → (extra : List Memory) × (slice_index_or now.founds u [] ≡ map (λ (x : Step). x.found) ss ++ extra) × (length extra ≤ 1)
            × ((thread p u (map (λ (x : Step). x.found) ss ++ extra) ticks).lefts ≡ map (λ (x : Step). x.left) ss) × ((thread p u (map (λ (x : Step). x.found) ss) ticks).lefts ≡ map (λ (x : Step). x.left) ss)
        moved ss e g = subst (λ (zs : List Step). (extra : List Memory) × (slice_index_or now.founds u [] ≡ map (λ (x : Step). x.found) zs ++ extra) × (length extra ≤ 1)
            × ((thread p u (map (λ (x : Step). x.found) zs ++ extra) ticks).lefts ≡ map (λ (x : Step). x.left) zs) × ((thread p u (map (λ (x : Step). x.found) zs) ticks).lefts ≡ map (λ (x : Step). x.left) zs)) e (g.extra, g.is, g.one, g.lefts, g.alone)

        by : ((u == t) ≡ true) × (u ≡ t) ⊎ ((u == t) ≡ false) × (u ≢ t) → Has later u (slice_index_or (slice_set now.founds t (f ++ M ∷ [])) u [])
        by (inl e) = subst (λ k. Has later k (slice_index_or (slice_set now.founds t (f ++ M ∷ [])) k [])) (sym e.1) (subst (Has later t) (sym (index_set_same now.founds t (f ++ M ∷ []) [] within)) mine)
        by (inr e) =
            let g = moved (of_thread u later) (sym (others u e.1)) (s.each u below) in
            subst (Has later u) (sym (index_set_other now.founds t u (f ++ M ∷ []) [] e.1))
            (record { extra = g.0; is = g.1; one = g.2; lefts = g.3; alone = g.4 })

    counted : length (slice_set now.founds t (f ++ M ∷ [])) ≡ threads
    counted = length-set now.founds t (f ++ M ∷ []) ∙ s.count

    left : (ls : List Memory) → b.further ≡ ls → (later : List Step) × Shown later next
    left [] e = (
      run,
      record {
        memory = ap (last_left M) (further_is ∙ e) ∙ s.memory;
        named = s.named;
        chained = s.chained;
        count = counted;
        each = found_now run (λ u ne. refl) (record {
          extra = M ∷ [];
          is = refl;
          one = omega arith;
          lefts = begins ∙ ap (λ x. (thread p t f ticks).lefts ++ x) e ∙ append-nil (thread p t f ticks).lefts ∙ h.alone;
          alone = h.alone;
        });
      },
    )
    left (l ∷ []) e =
        let made : Step = record { thread = t; found = M; left = l } in
        let fs : founds_of t (run ++ made ∷ []) ≡ f ++ M ∷ [] = founds_own t run made [] refl in
        let ls : lefts_of t (run ++ made ∷ []) ≡ lefts_of t run ++ l ∷ [] = lefts_own t run made [] refl in
        let now_left : (thread p t (f ++ M ∷ []) ticks).lefts ≡ lefts_of t run ++ l ∷ [] = begins ∙ ap₂ (λ x y. x ++ y) h.alone e in
        let mine : (thread p t (founds_of t (run ++ made ∷ [])) ticks).lefts ≡ lefts_of t (run ++ made ∷ []) = ap (λ g. (thread p t g ticks).lefts) fs ∙ now_left ∙ sym ls in (
          run ++ made ∷ [],
          record {
            memory = ap (last_left M) (further_is ∙ e) ∙ sym (last_after m0 run made);
            named = named_more threads run made s.named lt;
            chained = chained_more m0 run made s.chained s.memory;
            count = counted;
            each = found_now (run ++ made ∷ []) (λ u ne. of_other u run made (λ k. ne (sym k))) (record {
              extra = [];
              is = sym fs ∙ sym (append-nil (founds_of t (run ++ made ∷ [])));
              one = omega arith;
              lefts = ap (λ g. (thread p t g ticks).lefts) (append-nil (founds_of t (run ++ made ∷ []))) ∙ mine;
              alone = mine;
            });
          },
        )
    left (l ∷ k ∷ ls) e = absurd (let c : length b.further ≡ suc (suc (length ls)) = ap length e in let o : length b.further ≤ 1 = at_most_one in omega (arith, c, o))

    at : ((thread p t (slice_index_or now.founds t []) ticks).end ≡ Stopped Wants) ⊎ ((thread p t (slice_index_or now.founds t []) ticks).end ≢ Stopped Wants) → (later : List Step) × Shown later (entry (thread p) ticks t now)
    at (inr n) = (run, subst (Shown run) (sym (passed_over (thread p t (slice_index_or now.founds t []) ticks).end (finds (thread p) ticks t (slice_index_or now.founds t []) now) now p ticks n)) s)
    at (inl w) =
        let g = left b.further refl in
        let is : slice_index_or now.founds t [] ≡ f = h.is ∙ ap (λ x. f ++ x) (no_extra run t _ h w) ∙ append-nil f in (
          g.0,
          subst (Shown g.0)
              (sym (ap (λ end. if_wanting (thread p) ticks end (finds (thread p) ticks t (slice_index_or now.founds t []) now) now) w
              ∙ ap (λ x. finds (thread p) ticks t x now) is)) g.1,
        )

    step_on : (later : List Step) × Shown later (entry (thread p) ticks t now)
    step_on = at (is_wanting (thread p t (slice_index_or now.founds t []) ticks).end)

  all_on : (order : List ℕ) (run : List Step) (now : Progress) → All (λ t. t < threads) order → Shown run now → (later : List Step) × Shown later (entries (thread p) ticks order now)
  all_on [] run now all s = (run, s)
  all_on (t ∷ order) run now all s =
      let g = step_on run now t (all 0 t (omega arith)) s in
      all_on order g.0 (entry (thread p) ticks t now) (λ k d lt. all (suc k) d (omega (arith, lt))) g.1

  first : Shown [] (record { memory = m0; founds = replicate threads [] })
  first = record {
    memory = refl;
    named = tt;
    chained = tt;
    count = length_replicate threads [];
    each = λ t lt.
        let nil : (thread p t [] ticks).lefts ≡ [] = none (thread p t [] ticks).lefts (never_more p t [] ticks) in
        record { extra = []; is = index_replicate threads t []; one = omega arith; lefts = nil; alone = nil };
  }

  pub shows_run : (order : List ℕ) → All (λ t. t < threads) order → ShowsRun p threads ticks order
  shows_run order all =
      let g = all_on order [] (record { memory = m0; founds = replicate threads [] }) all first in
      record {
        run = g.0;
        is_run = record { named = g.1.named; chained = g.1.chained; each = λ t lt. (ticks, (g.1.each t lt).alone) };
        memory = g.1.memory;
        count = outcomes_length p ticks 0 _ ∙ g.1.count;
        each = λ t lt.
            let h = g.1.each t lt in
            let z : 0 + t ≡ t = omega arith in
            (h.extra, h.one, outcomes_index p ticks 0 _ t (subst (λ n. t < n) (sym g.1.count) lt) ∙ ap₂ (λ k x. Some (thread p k x ticks)) z h.is, h.lefts);
      }

pub orders_are_runs : LeftAsManyAsFound → NeverMoreLeft → GoesOn → OrdersAreRuns
orders_are_runs left_as_many never_more goes_on p threads ticks order all = shows_run left_as_many never_more goes_on p threads ticks order all
