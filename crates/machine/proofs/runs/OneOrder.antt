-- All attempts in one order.
use Rattle.std.proofs.Common.{◌≡◌, ◌≤◌, ◌*◌, ◌+◌, inl, inr, ℕ, zero, suc, Bool, true, false, cond, leb, List, [], ◌∷◌, ◌++◌, Option, None, Some, refl, sym, ◌∙◌, ap, subst, slice_get, arith}
use Rattle.std.specs.List.{AllByRecursion}
use Rattle.syntax.specs.Behaviours.{IsMemory, IsSubsequence}
use Rattle.bytecode.specs.Effects.{Effect, FitsCells}
use Rattle.norec_core.specs.Attempts.{Attempt, Completed}
use Rattle.machine.specs.Computes.{ComputesOn}
use Rattle.machine.specs.inner.Invariant.{History, Invariant, Moves, Now, RecordOk}
use Rattle.machine.specs.Merges.{Entry, IsMerge, IsSorted, insert, insert_made, key, key_of, made_of, stable_merge}
use Rattle.machine.specs.OneOrder.{IsBehind, IsInOneOrder, MayDropNow, WithIdle, attempts_merge, end_record, ended_before, ended_by, ended_in, idle_record, insert_live, insert_open}
use Rattle.machine.specs.Serializable.{StandsAfter, attempt_of, merge_after, world_after}
use Rattle.machine.specs.Threads.{Next, access, step_with}
use Rattle.machine.specs.Worlds.{Part, Record, World, with_record, answer, new_world, part_after, record_of, step_record, run, step, step_of}
use Rattle.machine.proofs.merges.Follow.{chained}
use Rattle.machine.proofs.merges.Idle.{both_insert, follows_all, idle_from_first, idle_insert}
use Rattle.machine.proofs.merges.Insert.{insert_all, insert_sorted}
use Rattle.machine.proofs.merges.Merge.{EntryOk, Follows}
use Rattle.machine.proofs.merges.Within.{placed, within_insert, within_self}
use Rattle.machine.proofs.parts.Frame.{each_frame}
use Rattle.machine.proofs.parts.Part.{moves_refl}
use Rattle.machine.proofs.runs.Drops.{last_of}
use Rattle.machine.proofs.runs.Explained.{computes_of, whole}
use Rattle.machine.proofs.runs.InTime.{LowFor, all_map, among, low_of, no_low, within_made}
use Rattle.machine.proofs.runs.Order.{CompletedAt, StepGoes, goes}
use Rattle.machine.proofs.runs.Serializable.{new_invariant, serializable, start_of}
use Rattle.machine.proofs.steps.Moving.{step_moves}
use Rattle.machine.proofs.steps.Worlds.{get-set_same}

-- what holds of all attempts that have ended, beside the run of those that took effect
record Good (h : History) (es all : List Entry) : Type 0 where
  pub between : WithIdle es all
  pub sorted : IsSorted 0 all
  pub ok : AllByRecursion (EntryOk h) all

frame_all : (u : ℕ) (h k : History) (all : List Entry) → Moves u h k → AllByRecursion (EntryOk h) all → AllByRecursion (EntryOk k) all
frame_all u h k all m ok = all_map (EntryOk h) (EntryOk k) all (λ e is. (each_frame u e.thread h k (e.item ∷ []) m (is, tt)).0) ok

same_snapshot : {C : Type 0} (base : List ℕ) (a : Attempt C) (x : Record) (j : Option Completed) (o : Option (Attempt C)) → CompletedAt a j → end_record base j (Some a) o ≡ Some x → x.snapshot ≡ a.snapshot
same_snapshot base a x (Some y) o g e = let r : record_of base y ≡ x = cc in ap (λ (z : Record). z.snapshot) (sym r) ∙ g
same_snapshot base a x None None g e = let r : idle_record base a ≡ x = cc in ap (λ (z : Record). z.snapshot) (sym r)
same_snapshot base a x None (Some b) g e = absurd (cc)

past : (f : Entry) (seen bs : List Entry) → IsSubsequence seen bs → IsSubsequence seen (f ∷ bs)
past f [] bs i = tt
past f (x ∷ xs) bs i = inr i

under : (g : Entry) (seen gs bs : List Entry) → ((s : List Entry) → IsSubsequence s gs → IsSubsequence s bs) → IsSubsequence seen (g ∷ gs) → IsSubsequence seen (g ∷ bs)
under g [] gs bs f i = tt
under g (x ∷ xs) gs bs f (inl r) = inl (r.0, f xs r.1)
under g (x ∷ xs) gs bs f (inr r) = inr (f (x ∷ xs) r)

-- where an entry stands once another one is put in
abbrev Moved : Entry → List Entry → List Entry → Type 0
Moved e before all = (b : List Entry) × (a : List Entry) × (all ≡ b ++ e ∷ a) × ((s : List Entry) → IsSubsequence s before → IsSubsequence s b)

moved : (f e : Entry) (before after : List Entry) → Moved e before (insert f (before ++ e ∷ after))
moved f e [] after = at (leb (key e) (key f))
  where
    at : (c : Bool) → Moved e [] (cond c (e ∷ insert f after) (f ∷ e ∷ after))
    at true = ([], insert f after, refl, λ s i. i)
    at false = (f ∷ [], after, refl, λ s i. past f s [] i)
moved f e (g ∷ gs) after = at (leb (key g) (key f)) (moved f e gs after)
  where
    at : (c : Bool) → Moved e gs (insert f (gs ++ e ∷ after)) → Moved e (g ∷ gs) (cond c (g ∷ insert f (gs ++ e ∷ after)) (f ∷ g ∷ (gs ++ e ∷ after)))
    at true r = (g ∷ r.0, r.1, ap (λ l. g ∷ l) r.2, λ s i. under g s gs r.0 r.3 i)
    at false r = (f ∷ g ∷ gs, after, refl, λ s i. past f s (g ∷ gs) i)

behind_insert : (f e : Entry) (seen all : List Entry) → IsBehind e seen all → IsBehind e seen (insert f all)
behind_insert f e seen all b = let r = moved f e b.before b.after in record {
  before = r.0;
  after = r.1;
  place = ap (insert f) b.place ∙ r.2;
  earlier = r.3 seen b.earlier;
}

-- the attempts of all threads, put in at once
module _ {C : Type 0} where
  within_open : (t : ℕ) (base : List ℕ) (o : Option (Attempt C)) (seen all : List Entry) → IsSubsequence seen all → IsSubsequence seen (insert_open t base o all)
  within_open t base None seen all i = i
  within_open t base (Some a) seen all i = within_insert (record { thread = t; item = idle_record base a }) seen all i

  within_live : (n : ℕ) (ps : List (Part C)) (seen all : List Entry) → IsSubsequence seen all → IsSubsequence seen (insert_live n ps all)
  within_live n [] seen all i = i
  within_live n (p ∷ ps) seen all i = within_live (suc n) ps seen (insert_open n p.base p.thread.attempt all) (within_open n p.base p.thread.attempt seen all i)

  behind_open : (t : ℕ) (base : List ℕ) (o : Option (Attempt C)) (e : Entry) (seen all : List Entry) → IsBehind e seen all → IsBehind e seen (insert_open t base o all)
  behind_open t base None e seen all b = b
  behind_open t base (Some a) e seen all b = behind_insert (record { thread = t; item = idle_record base a }) e seen all b

  behind_live : (n : ℕ) (ps : List (Part C)) (e : Entry) (seen all : List Entry) → IsBehind e seen all → IsBehind e seen (insert_live n ps all)
  behind_live n [] e seen all b = b
  behind_live n (p ∷ ps) e seen all b = behind_live (suc n) ps e seen (insert_open n p.base p.thread.attempt all) (behind_open n p.base p.thread.attempt e seen all b)

  abbrev IsDropOk : History → ℕ → Part C → Type 0
  IsDropOk h t p = (a : Attempt C) → p.thread.attempt ≡ Some a → RecordOk h t (idle_record p.base a)

  module _ (h : History) (es : List Entry) where
    good_open : (t : ℕ) (base : List ℕ) (o : Option (Attempt C)) (all : List Entry) → ((a : Attempt C) → o ≡ Some a → RecordOk h t (idle_record base a)) → Good h es all → Good h es (insert_open t base o all)
    good_open t base None all ok good = good
    good_open t base (Some a) all ok good = record {
      between = idle_insert (record { thread = t; item = idle_record base a }) es all (refl, refl) good.between;
      sorted = insert_sorted 0 (record { thread = t; item = idle_record base a }) all (omega arith) good.sorted;
      ok = insert_all (EntryOk h) (record { thread = t; item = idle_record base a }) all (ok a refl) good.ok;
    }

    first_ok : (n : ℕ) (p : Part C) (ps : List (Part C)) → ((t : ℕ) (q : Part C) → slice_get (p ∷ ps) t ≡ Some q → IsDropOk h (n + t) q) → IsDropOk h n p
    first_ok n p ps ok = let e : n + 0 ≡ n = omega arith in subst (λ (k : ℕ). IsDropOk h k p) e (ok 0 p refl)

    rest_ok : (n : ℕ) (p : Part C) (ps : List (Part C)) → ((t : ℕ) (q : Part C) → slice_get (p ∷ ps) t ≡ Some q → IsDropOk h (n + t) q) → (t : ℕ) (q : Part C) → slice_get ps t ≡ Some q → IsDropOk h (suc n + t) q
    rest_ok n p ps ok t q at = let e : n + suc t ≡ suc n + t = omega arith in subst (λ (k : ℕ). IsDropOk h k q) e (ok (suc t) q at)

    good_live : (n : ℕ) (ps : List (Part C)) (all : List Entry) → ((t : ℕ) (q : Part C) → slice_get ps t ≡ Some q → IsDropOk h (n + t) q) → Good h es all → Good h es (insert_live n ps all)
    good_live n [] all ok good = good
    good_live n (p ∷ ps) all ok good = good_live (suc n) ps (insert_open n p.base p.thread.attempt all) (rest_ok n p ps ok) (good_open n p.base p.thread.attempt all (first_ok n p ps ok) good)

module _ {C : Type 0} (code : C → Effect C) (init : ℕ → C) (bounds : List ℕ) (m0 : List ℕ) (is_memory : IsMemory bounds m0) (fits : FitsCells code bounds) where
  attempted-append : (ts us : List ℕ) (w : World C) (es : List Entry) → attempts_merge code (ts ++ us) w es ≡ attempts_merge code us (run code ts w) (attempts_merge code ts w es)
  attempted-append [] us w es = refl
  attempted-append (t ∷ ts) us w es = attempted-append ts us (step code w t) _

  within_attempted : (seen : List Entry) (us : List ℕ) (w : World C) (all : List Entry) → IsSubsequence seen all → IsSubsequence seen (attempts_merge code us w all)
  within_attempted seen [] w all i = i
  within_attempted seen (u ∷ us) w all i = within_attempted seen us (step code w u) _ (within_made code init bounds m0 is_memory fits u seen u (ended_in code w (slice_get w.parts u)) all i)

  -- an attempt that is not over is a good idle entry
  idle_ok : (h k : History) (u : ℕ) (p : Part C) (a : Attempt C) → Now code bounds h u (init u) p.records p.base p.thread (Some a) → Moves u h k → RecordOk k u (idle_record p.base a)
  idle_ok h k u p a now m =
      let in_time = now.steady.in_time in
      let up = m.top in
      record {
        even = now.steady.even;
        found = now.steady.based ∙ sym (m.mem a.snapshot now.steady.in_time);
        left = (omega (arith, in_time, up), refl);
      }

  module _ (w : World C) (h : History) (u : ℕ) (v : Invariant code bounds init m0 h w) (es all : List Entry) (good : Good h es all) where
    abbrev k : History
    k = (step_moves code init bounds m0 fits w h u v).0

    m : Moves u h k
    m = (step_moves code init bounds m0 fits w h u v).2

    framed : Good k es all
    framed = record { between = good.between; sorted = good.sorted; ok = frame_all u h k all m good.ok }

    -- with one more
    with_both : (x : Record) → RecordOk k u x → Good k (insert (record { thread = u; item = x }) es) (insert (record { thread = u; item = x }) all)
    with_both x ok = record {
      between = both_insert (record { thread = u; item = x }) 0 es all good.sorted good.between;
      sorted = insert_sorted 0 (record { thread = u; item = x }) all (omega arith) good.sorted;
      ok = insert_all (EntryOk k) (record { thread = u; item = x }) all ok framed.ok;
    }

    with_idle : (base : List ℕ) (a : Attempt C) → RecordOk k u (idle_record base a) → Good k es (insert (record { thread = u; item = idle_record base a }) all)
    with_idle base a ok = record {
      between = idle_insert (record { thread = u; item = idle_record base a }) es all (refl, refl) good.between;
      sorted = insert_sorted 0 (record { thread = u; item = idle_record base a }) all (omega arith) good.sorted;
      ok = insert_all (EntryOk k) (record { thread = u; item = idle_record base a }) all ok framed.ok;
    }

    good_step : Good k (insert_made u (made_of code w (slice_get w.parts u)) es) (insert_made u (ended_in code w (slice_get w.parts u)) all)
    good_step = at (slice_get w.parts u) refl (step_moves code init bounds m0 fits w h u v).1
      where
        at : (o : Option (Part C)) → slice_get w.parts u ≡ o → Invariant code bounds init m0 k (step code w u) → Good k (insert_made u (made_of code w o) es) (insert_made u (ended_in code w o) all)
        at None e after = framed
        at (Some p) e after = by n.completed p.thread.attempt n.thread.attempt refl refl
          where
            n : Next C
            n = step_with code p.thread (answer w.lock w.words (access code p.thread))

            now : slice_get (step code w u).parts u ≡ Some (part_after w.words p n)
            now = ap (λ o'. slice_get (step_of code w u o').parts u) e ∙ get-set_same w.parts u (part_after w.words p n) p e

            last : (y : Completed) → n.completed ≡ Some y → RecordOk k u (record_of p.base y)
            last y ec = last_of (RecordOk k u) p.records (record_of p.base y) (subst (λ j. AllByRecursion (RecordOk k u) (with_record p.records (step_record p.base j))) ec (after.parts u (part_after w.words p n) now).each)

            by : (j : Option Completed) (o o' : Option (Attempt C)) → n.completed ≡ j → p.thread.attempt ≡ o → Good k (insert_made u (step_record p.base j) es) (insert_made u (end_record p.base j o o') all)
            by (Some y) o o' ec ea = with_both (record_of p.base y) (last y ec)
            by None (Some a) None ec ea = with_idle p.base a (idle_ok h k u p a (subst (λ o. Now code bounds h u (init u) p.records p.base p.thread o) ea (v.parts u p e).now) m)
            by None (Some a) (Some b) ec ea = framed
            by None None o' ec ea = framed

  -- after any steps
  record GoodAfter (t : ℕ) (w : World C) (es all seen : List Entry) : Type 0 where
    pub h : History
    pub invariant : Invariant code bounds init m0 h w
    pub good : Good h es all
    pub among : IsSubsequence seen all
    pub low : LowFor (attempt_of (slice_get w.parts t)) seen

  over : (us : List ℕ) (t : ℕ) (w : World C) (es all seen : List Entry) → GoodAfter t w es all seen → GoodAfter t (run code us w) (stable_merge code us w es) (attempts_merge code us w all) (ended_by code t us w all seen)
  over [] t w es all seen g = g
  over (u ∷ us) t w es all seen g =
      let s = step_moves code init bounds m0 fits w g.h u g.invariant in
      over us t (step code w u) _ _ _ (record {
        h = s.0;
        invariant = s.1;
        good = good_step w g.h u g.invariant es all g.good;
        among = among code init bounds m0 is_memory fits t (attempt_of (slice_get w.parts t)) (attempt_of (slice_get (step code w u).parts t)) all (insert_made u (ended_in code w (slice_get w.parts u)) all) seen
            (λ l. within_made code init bounds m0 is_memory fits t l u (ended_in code w (slice_get w.parts u)) all) g.among;
        low = low_of code init bounds m0 is_memory fits t w g.h u all seen g.invariant g.good.ok g.low;
      })

  after : (threads : ℕ) (ts : List ℕ) (t : ℕ) → GoodAfter t (world_after code init m0 threads ts) (merge_after code init m0 threads ts) (attempts_merge code ts (new_world init m0 threads) []) (ended_before code init m0 threads ts t)
  after threads ts t = over ts t (new_world init m0 threads) [] [] [] (record {
    h = start_of m0;
    invariant = new_invariant code init bounds m0 is_memory threads;
    good = record { between = tt; sorted = tt; ok = tt };
    among = tt;
    low = no_low (attempt_of (slice_get (new_world init m0 threads).parts t));
  })

  -- the list is chained
  chain : (w : World C) (h : History) (es all : List Entry) → Invariant code bounds init m0 h w → IsMerge w.parts es → Good h es all → Follows 0 all h.top
  chain w h es all v merge good = follows_all h 0 0 es all refl good.between good.sorted good.ok (idle_from_first all) (whole code init bounds m0 w h v es merge)

  snap_key : (n : ℕ) (b : Bool) → 2 * n ≤ key_of n b
  snap_key n true = omega arith
  snap_key n false = omega arith

  -- where an entry is put that has the snapshot of the attempt
  put : (t : ℕ) (a : Attempt C) (x : Record) (all seen : List Entry) → IsSorted 0 all → IsSubsequence seen all → a.first ≤ a.snapshot → x.snapshot ≡ a.snapshot → AllByRecursion (λ (f : Entry). key f ≤ 2 * a.first) seen → StandsAfter (record { thread = t; item = x }) seen all
  put t a x all seen sorted in_all since is low =
      let up = snap_key x.snapshot x.took_lock in
      placed (record { thread = t; item = x }) 0 all seen sorted in_all (all_map (λ f. key f ≤ 2 * a.first) (λ f. key f ≤ key_of x.snapshot x.took_lock) seen (λ f le. omega (arith, le, since, is, up)) low)

  -- where an attempt stands once those of all threads are put in
  live_behind : (h : History) (es : List Entry) (n : ℕ) (ps : List (Part C)) (all : List Entry) (t : ℕ) (p : Part C) (a : Attempt C) (seen : List Entry) → ((u : ℕ) (q : Part C) → slice_get ps u ≡ Some q → IsDropOk h (n + u) q) → Good h es all → IsSubsequence seen all → slice_get ps t ≡ Some p → p.thread.attempt ≡ Some a → a.first ≤ a.snapshot → AllByRecursion (λ (f : Entry). key f ≤ 2 * a.first) seen → IsBehind (record { thread = n + t; item = idle_record p.base a }) seen (insert_live n ps all)
  live_behind h es n [] all t p a seen ok good in_all at has since low = absurd (cc)
  live_behind h es n (q ∷ ps) all zero p a seen ok good in_all at has since low =
      let same : q ≡ p = cc in
      let e : n ≡ n + 0 = omega arith in
      let s = put n a (idle_record p.base a) all seen good.sorted in_all since refl low in
      let here : IsBehind (record { thread = n; item = idle_record p.base a }) seen (insert (record { thread = n; item = idle_record p.base a }) all) = record { before = s.before; after = s.after; place = s.is; earlier = s.all } in
      let put_open : IsBehind (record { thread = n; item = idle_record p.base a }) seen (insert_open n q.base q.thread.attempt all) = subst (λ (z : Part C). IsBehind (record { thread = n; item = idle_record p.base a }) seen (insert_open n z.base z.thread.attempt all)) (sym same)
      (subst (λ (o : Option (Attempt C)). IsBehind (record { thread = n; item = idle_record p.base a }) seen (insert_open n p.base o all)) (sym has) here) in
      subst (λ (k : ℕ). IsBehind (record { thread = k; item = idle_record p.base a }) seen (insert_live n (q ∷ ps) all)) e
      (behind_live (suc n) ps (record { thread = n; item = idle_record p.base a }) seen (insert_open n q.base q.thread.attempt all) put_open)
  live_behind h es n (q ∷ ps) all (suc t) p a seen ok good in_all at has since low =
      let e : suc n + t ≡ n + suc t = omega arith in
      subst (λ (k : ℕ). IsBehind (record { thread = k; item = idle_record p.base a }) seen (insert_live n (q ∷ ps) all)) e
      (live_behind h es (suc n) ps (insert_open n q.base q.thread.attempt all) t p a seen (rest_ok h es n q ps ok) (good_open h es n q.base q.thread.attempt all (first_ok h es n q ps ok) good) (within_open n q.base q.thread.attempt seen all in_all) at has since low)

  pub one_order : (threads : ℕ) (ts : List ℕ) → IsInOneOrder code init m0 threads ts
  one_order threads ts =
      let g = after threads ts 0 in
      let merge = (serializable code init bounds m0 is_memory fits threads ts).is_merge in
      record {
        effective = g.good.between;
        chained = chained g.h 0 m0 _ g.h.top (sym g.invariant.first) (chain (world_after code init m0 threads ts) g.h _ _ g.invariant merge g.good) g.good.ok;
        computes = computing;
        in_time = timed;
        live = living;
        together = record {
          effective = (all_good 0).between;
          ended = within_live 0 (world_after code init m0 threads ts).parts _ _ (within_self _);
          chained = chained g.h 0 m0 _ g.h.top (sym g.invariant.first) (chain (world_after code init m0 threads ts) g.h _ _ g.invariant merge (all_good 0)) (all_good 0).ok;
          in_time = live_in_time;
        };
        extended = λ us. subst (λ l. IsSubsequence (attempts_merge code ts (new_world init m0 threads) []) l) (sym (attempted-append ts us (new_world init m0 threads) [])) (within_attempted _ us (world_after code init m0 threads ts) _ (within_self _));
      }
    where
      computing : (t : ℕ) (p : Part C) (a : Attempt C) → slice_get (world_after code init m0 threads ts).parts t ≡ Some p → p.thread.attempt ≡ Some a → (es : List Entry) → IsMerge (world_after code init m0 threads ts).parts es → ComputesOn code init es t p a p.base
      computing t p a e has es m =
          let g = after threads ts t in
          let now = subst (λ o. Now code bounds g.h t (init t) p.records p.base p.thread o) has (g.invariant.parts t p e).now in
          subst (ComputesOn code init es t p a) (sym now.steady.based) (computes_of code init bounds m0 (world_after code init m0 threads ts) g.h g.invariant es m t p e a now)

      timed : (t : ℕ) (x : Record) → ended_in code (world_after code init m0 threads ts) (slice_get (world_after code init m0 threads ts).parts t) ≡ Some x → StandsAfter (record { thread = t; item = x }) (ended_before code init m0 threads ts t) (attempts_merge code ts (new_world init m0 threads) [])
      timed t x j = at (slice_get (world_after code init m0 threads ts).parts t) refl (after threads ts t).low j
        where
          at : (o : Option (Part C)) → slice_get (world_after code init m0 threads ts).parts t ≡ o → LowFor (attempt_of o) (ended_before code init m0 threads ts t) → ended_in code (world_after code init m0 threads ts) o ≡ Some x → StandsAfter (record { thread = t; item = x }) (ended_before code init m0 threads ts t) (attempts_merge code ts (new_world init m0 threads) [])
          at None e low j' = absurd (cc)
          at (Some p) e low j' = by p.thread.attempt n.thread.attempt refl low (goes code p.thread (answer (world_after code init m0 threads ts).lock (world_after code init m0 threads ts).words (access code p.thread))) j' ((after threads ts t).invariant.parts t p e).now
            where
              n : Next C
              n = step_with code p.thread (answer (world_after code init m0 threads ts).lock (world_after code init m0 threads ts).words (access code p.thread))

              by : (o o' : Option (Attempt C)) → p.thread.attempt ≡ o → LowFor o (ended_before code init m0 threads ts t) → StepGoes o n → end_record p.base n.completed o o' ≡ Some x → Now code bounds (after threads ts t).h t (init t) p.records p.base p.thread o → StandsAfter (record { thread = t; item = x }) (ended_before code init m0 threads ts t) (attempts_merge code ts (new_world init m0 threads) [])
              by None o' ea l g j'' now = absurd (let none : Some x ≡ None = sym j'' ∙ ap (λ c. end_record {C = C} p.base c None o') g.0 in cc)
              by (Some a) o' ea l g j'' now =
                  let gd = after threads ts t in
                  put t a x _ _ gd.good.sorted gd.among now.steady.since (same_snapshot p.base a x n.completed o' g.1 j'') l

      drop_ok : (v t : ℕ) (p : Part C) → slice_get (world_after code init m0 threads ts).parts t ≡ Some p → IsDropOk (after threads ts v).h (0 + t) p
      drop_ok v t p at a has =
          let g = after threads ts v in
          let e : t ≡ 0 + t = omega arith in
          let now = subst (λ o. Now code bounds g.h t (init t) p.records p.base p.thread o) has (g.invariant.parts t p at).now in
          subst (λ (k : ℕ). RecordOk g.h k (idle_record p.base a)) e (idle_ok g.h g.h t p a now (moves_refl t g.h))

      all_good : (v : ℕ) → Good (after threads ts v).h (merge_after code init m0 threads ts) (insert_live 0 (world_after code init m0 threads ts).parts (attempts_merge code ts (new_world init m0 threads) []))
      all_good v = good_live (after threads ts v).h _ 0 (world_after code init m0 threads ts).parts _ (drop_ok v) (after threads ts v).good

      live_in_time : (t : ℕ) (p : Part C) (a : Attempt C) → slice_get (world_after code init m0 threads ts).parts t ≡ Some p → p.thread.attempt ≡ Some a → IsBehind (record { thread = t; item = idle_record p.base a }) (ended_before code init m0 threads ts t) (insert_live 0 (world_after code init m0 threads ts).parts (attempts_merge code ts (new_world init m0 threads) []))
      live_in_time t p a at has =
          let g = after threads ts t in
          let e : 0 + t ≡ t = omega arith in
          let now = subst (λ o. Now code bounds g.h t (init t) p.records p.base p.thread o) has (g.invariant.parts t p at).now in
          let low : LowFor (Some a) (ended_before code init m0 threads ts t) = subst (λ o. LowFor o (ended_before code init m0 threads ts t)) (ap attempt_of at ∙ has) g.low in
          subst (λ (k : ℕ). IsBehind (record { thread = k; item = idle_record p.base a }) (ended_before code init m0 threads ts t) (insert_live 0 (world_after code init m0 threads ts).parts (attempts_merge code ts (new_world init m0 threads) []))) e
          (live_behind g.h _ 0 (world_after code init m0 threads ts).parts _ t p a _ (drop_ok t) g.good g.among at has now.steady.since low)

      living : (t : ℕ) (p : Part C) (a : Attempt C) → slice_get (world_after code init m0 threads ts).parts t ≡ Some p → p.thread.attempt ≡ Some a → MayDropNow m0 t p a (ended_before code init m0 threads ts t) (attempts_merge code ts (new_world init m0 threads) [])
      living t p a e has =
          let g = after threads ts t in
          let merge = (serializable code init bounds m0 is_memory fits threads ts).is_merge in
          let now = subst (λ o. Now code bounds g.h t (init t) p.records p.base p.thread o) has (g.invariant.parts t p e).now in
          let ok = idle_ok g.h g.h t p a now (moves_refl t g.h) in
          let good : Good g.h (merge_after code init m0 threads ts) (insert (record { thread = t; item = idle_record p.base a }) (attempts_merge code ts (new_world init m0 threads) [])) = record {
            between = idle_insert (record { thread = t; item = idle_record p.base a }) _ _ (refl, refl) g.good.between;
            sorted = insert_sorted 0 (record { thread = t; item = idle_record p.base a }) _ (omega arith) g.good.sorted;
            ok = insert_all (EntryOk g.h) (record { thread = t; item = idle_record p.base a }) _ ok g.good.ok;
          } in
          let low : LowFor (Some a) (ended_before code init m0 threads ts t) = subst (λ o. LowFor o (ended_before code init m0 threads ts t)) (ap attempt_of e ∙ has) g.low in
          record {
            in_time = put t a (idle_record p.base a) _ _ g.good.sorted g.among now.steady.since refl low;
            chained = chained g.h 0 m0 _ g.h.top (sym g.invariant.first) (chain (world_after code init m0 threads ts) g.h _ _ g.invariant merge good) good.ok;
          }
