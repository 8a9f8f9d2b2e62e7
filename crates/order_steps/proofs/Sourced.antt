-- Each order of the source in which no thread is spent is one of threads that rest, and so a list of the machine's
-- steps.
use Rattle.std.proofs.Common.{◌≡◌, ◌≢◌, ◌⊎◌, inl, inr, ◌==◌, ◌≤◌, ◌<◌, ◌+◌, ◌^◌, ℕ, zero, suc, Bool, true, false, List, [], ◌∷◌, ◌++◌, None, Some, refl, sym, ◌∙◌, ap, ap₂, subst, length, replicate, set, get_or, map, drop, slice_get, append_assoc, append-nil, arith}
use Rattle.std.proofs.lemmas.Bool.Decides.{eqb_tells}
use Rattle.std.proofs.lemmas.List.{get_or-set_other, length-set}
use Rattle.std.proofs.Math.Seq.{drop-append_seam}
use Rattle.std.proofs.lemmas.Option.{none-some, slice_get_within}
use Rattle.std.specs.List.{AllByRecursion}
use Rattle.syntax.specs.Behaviours.{Ended, IsMemory, Means, Memory, Outcome, Stopped}
use Rattle.syntax.specs.Names.{bounds, initial_memory}
use Rattle.syntax.specs.Orders.{Progress, entry, finds, if_wanting, last_left, outcomes}
use Rattle.syntax.specs.Threads.{thread}
use Rattle.syntax.specs.Tree.{Program}
use Rattle.syntax.specs.declared.thread_end.Halt.TheVariants.{Spent, Trapped, Wants}
use Rattle.syntax.specs.declared.thread_end.Status.{Status}
use Rattle.syntax.specs.declared.thread_end.Status.TheVariants.{Running, Ended as HasEnded, Trapped as HasTrapped}
use Rattle.bytecode.specs.Effects.{Effect, FitsCells}
use Rattle.bytecode.proofs.Tables.{some_same}
use Rattle.bytecode.specs.Sequential.{Sequential, end_of, meaning, outcome_of, outside, start, steps}
use Rattle.syntax.proofs.running.ThreadLaws.{more_ticks}
use Rattle.syntax.proofs.words.Words.{begins_with_memory}
use Rattle.machine.specs.Resting.{IsAtBegin, IsThreadAtRest}
use Rattle.machine.specs.Drops.{drops}
use Rattle.machine.specs.Serializable.{world_after}
use Rattle.machine.specs.Threads.{Thread}
use Rattle.machine.specs.Worlds.{Part, Reached, new_world}
use Rattle.machine.proofs.alone.Lefts.{leaves_memories}
use Rattle.machine.proofs.alone.Transaction.{Left, begun_solo, found_all}
use Rattle.machine.proofs.alone.Transaction.{after as after_steps}
use Rattle.machine.proofs.parts.Memories.{sized}
use Rattle.machine.proofs.runs.Drops.{last_of}
use Rattle.machine.proofs.steps.Worlds.{get-set_other, get-set_same}
use Rattle.states.specs.Comes.{AllBegin, ComesToOutcome}
use Rattle.states.specs.Leads.{EntryLeads, OrderLeads}
use Rattle.states.specs.Rests.{Rests, Turn, end_at_rest, text_at_rest}
use Rattle.states.specs.Shown.{IsOrderAmong, NoneIsSpent, told_at_rest, told_in, told_of_outcome}
use Rattle.states.proofs.Later.{after, after_size, entries_more, founds_at, get_set, unspent_before, unspent_in, wants_or}
use Rattle.states.proofs.Leading.{stays}
use Rattle.states.proofs.Resting.{Ready, behind, comes, goes, more_steps, ready, steps_behind}
use Rattle.order_steps.specs.Resting.{AllRestAs, WorldRests}
use Rattle.order_steps.specs.Stepped.{AreStepsOf, MachineDoesAll, SourceOrdersAreSteps, SourceOrdersLead, end_when_idle, told_when_idle}
use Rattle.order_steps.proofs.Ordering.{orders_are_steps}
use Rattle.order_steps.proofs.Turns.{at_begin, at_rest, from_begin, stays_over}

there_is : {X : Type 0} (xs : List X) (t : ℕ) → t < length xs → (x : X) × (slice_get xs t ≡ Some x)
there_is [] t lt = absurd (omega (arith, lt))
there_is (x ∷ xs) zero lt = (x, refl)
there_is (x ∷ xs) (suc t) lt = there_is xs t (omega (arith, lt))

-- not spent: over, or wants a memory
over_of : (w : Bool) (st : Status) → end_of w st ≢ Stopped Spent → (w ≡ true) ⊎ (st ≢ Running)
over_of true st h = inl refl
over_of false Running h = absurd (h refl)
over_of false HasEnded h = inr (λ e. absurd (cc))
over_of false (HasTrapped cause) h = inr (λ e. absurd (cc))

-- what is told of a thread that rests is what is told of the machine's
same_end : (w : Bool) (st : Status) → ((w ≡ true) ⊎ (st ≢ Running)) → (w ≡ true → st ≡ Running) → end_when_idle st ≡ end_of w st
same_end true st over runs = ap end_when_idle (runs refl)
same_end false Running (inl e) runs = absurd (cc)
same_end false Running (inr ne) runs = absurd (ne refl)
same_end false HasEnded over runs = refl
same_end false (HasTrapped cause) over runs = refl

module _ {C : Type 0} (code : C → Effect C) where
  told_alike : (ks : List (Sequential C)) (ps : List (Part C)) → AllRestAs code ks ps → map told_when_idle ps ≡ map (told_at_rest end_at_rest text_at_rest) ks
  told_alike [] [] rs = refl
  told_alike [] (p ∷ ps) rs = elim rs [ ]
  told_alike (k ∷ ks) [] rs = elim rs [ ]
  told_alike (k ∷ ks) (p ∷ ps) (r, rs) =
      ap₂ (λ x xs. x ∷ xs)
      (ap (λ (th : Thread C). (th.text, end_when_idle th.status)) r.thread ∙ ap (λ e. (k.text, e)) (same_end k.wants k.status r.rests.goes_no_further (λ w. (r.begins w).running)))
      (told_alike ks ps rs)

  idle_all : (ks : List (Sequential C)) (ps : List (Part C)) → AllRestAs code ks ps → AllByRecursion (λ (x : Part C). IsThreadAtRest code x.thread) ps
  idle_all [] [] rs = tt
  idle_all [] (p ∷ ps) rs = elim rs [ ]
  idle_all (k ∷ ks) [] rs = elim rs [ ]
  idle_all (k ∷ ks) (p ∷ ps) (r, rs) = (at_rest code k p.thread r, idle_all ks ps rs)

  module _ (init : ℕ → C) (p : Program) (fits : FitsCells code (bounds p)) (is_memory : IsMemory (bounds p) (initial_memory p)) (means : Means (bounds p) (meaning code init) (thread p)) where
    -- thread t rests as k, where it has found these memories and left those
    record RestsIn (t : ℕ) (founds lefts : List Memory) (k : Sequential C) : Type 0 where
      rests : Rests code (bounds p) init t founds lefts k
      outside : k.inside ≡ None
      begins : k.wants ≡ true → IsAtBegin code k.configuration k.status

    abbrev told : List Memory → Sequential C → Outcome
    told lefts k = record { lefts = lefts; text = k.text; end = end_at_rest k }

    -- with ticks that do not spend it
    does_now : (t ticks : ℕ) (f ls : List Memory) (k : Sequential C) → Rests code (bounds p) init t f ls k → (thread p t f ticks).end ≢ Stopped Spent → thread p t f ticks ≡ told ls k
    does_now t ticks f ls k r none =
        let c : ComesToOutcome p t f (told ls k) = comes code (bounds p) init p means t f ls k r in
        let first : (thread p t f c.ticks).end ≢ Stopped Spent = λ s. c.unspent (sym (ap (λ (x : Outcome). x.end) c.does) ∙ s) in
        let swap : ticks + c.ticks ≡ c.ticks + ticks = omega arith in
        sym (more_ticks p t f ticks c.ticks none) ∙ ap (thread p t f) swap ∙ more_ticks p t f c.ticks ticks first ∙ c.does

    -- a thread that has found nothing yet
    begins_at : (t ticks : ℕ) → t < 2 ^ 32 → (thread p t [] ticks).end ≢ Stopped Spent → (k : Sequential C) × RestsIn t [] [] k
    begins_at t ticks lt none =
        let j = means.there t [] lt tt ticks in
        let a = after_steps code 0 [] [] j.0 (init t) [] Running in
        let k : Sequential C = found_all a.c [] a.text a.status a.wants in
        let not_spent : end_of a.wants a.status ≢ Stopped Spent = λ e. none (sym (ap (λ (x : Outcome). x.end) (sym (ap outcome_of a.meaning) ∙ j.1)) ∙ e) in (
          k,
          record {
            rests = record { named = lt; memories = tt; made = j.0; does = a.meaning; rests = record { found = refl; left = refl; goes_no_further = over_of a.wants a.status not_spent } };
            outside = refl;
            begins = λ w. at_begin code a.c a.status (a.begins w);
          },
        )

    -- a turn of a thread that the source does not spend
    record Goes (t ticks : ℕ) (f ls : List Memory) (k : Sequential C) (m : Memory) : Type 0 where
      left : Memory
      next : Sequential C
      turn : Turn code k m left next
      rests : RestsIn t (f ++ m ∷ []) (ls ++ left ∷ []) next
      is : IsMemory (bounds p) left
      does : thread p t (f ++ m ∷ []) ticks ≡ told (ls ++ left ∷ []) next

    wanting : (w : Bool) (st : Status) → end_of w st ≡ Stopped Wants → w ≡ true
    wanting true st e = refl
    wanting false Running e = let x : Stopped Spent ≡ Stopped Wants = e in absurd (cc)
    wanting false HasEnded e = let x : Ended ≡ Stopped Wants = e in absurd (cc)
    wanting false (HasTrapped cause) e = let x : Stopped (Trapped cause) ≡ Stopped Wants = e in absurd (cc)

    all_last : (P : Memory → Type 0) (ms : List Memory) (m : Memory) → AllByRecursion P ms → P m → AllByRecursion P (ms ++ m ∷ [])
    all_last P [] m all is = (is, tt)
    all_last P (x ∷ ms) m (h, all) is = (h, all_last P ms m all is)

    goes_at : (t ticks : ℕ) (f ls : List Memory) (k : Sequential C) (m : Memory) → IsMemory (bounds p) m → RestsIn t f ls k → end_at_rest k ≡ Stopped Wants → (thread p t (f ++ m ∷ []) ticks).end ≢ Stopped Spent → Goes t ticks f ls k m
    goes_at t ticks f ls k m is r wants none = record {
      left = l.left;
      next = k';
      turn = turn;
      rests = record { rests = again; outside = refl; begins = λ w. at_begin code l.there.c l.there.status (l.there.begins w) };
      is = last_of (IsMemory (bounds p)) ls l.left (subst (AllByRecursion (IsMemory (bounds p))) (ap (λ (x : Sequential C). x.lefts) ends) (leaves_memories code (bounds p) fits init t f' j.0 memories));
      does = does_now t ticks f' (ls ++ l.left ∷ []) k' again none;
    }
      where
        f' : List Memory
        f' = f ++ m ∷ []

        memories : AllByRecursion (IsMemory (bounds p)) f'
        memories = all_last (IsMemory (bounds p)) f m r.rests.memories is

        j : (n : ℕ) × (meaning code init t f' n ≡ thread p t f' ticks)
        j = means.there t f' r.rests.named memories ticks

        last : Sequential C
        last = steps code j.0 (start (init t) f')

        over : (last.wants ≡ true) ⊎ (last.status ≢ Running)
        over = over_of last.wants last.status (λ e. none (sym (ap (λ (x : Outcome). x.end) j.1) ∙ e))

        wants' : k.wants ≡ true
        wants' = wanting k.wants k.status wants

        b : IsAtBegin code k.configuration k.status
        b = r.begins wants'

        found : Sequential C
        found = outside k.configuration (m ∷ []) [] k.text Running

        same_found : record k { wants = false; founds = m ∷ [] } ≡ found
        same_found = λ i. record { configuration = k.configuration; inside = r.outside i; founds = m ∷ []; lefts = r.rests.rests.left i; text = k.text; status = b.running i; wants = false }

        first : Ready code r.rests.made (start (init t) f) m
        first = ready code r.rests.made (start (init t) f) m refl (ap (λ (x : Sequential C). x.wants) r.rests.does ∙ wants')

        at : steps code first.few (start (init t) f') ≡ behind ls found
        at = first.ready ∙ ap (λ (x : Sequential C). record x { wants = false; founds = m ∷ [] }) r.rests.does
            ∙ (λ i. record { configuration = k.configuration; inside = r.outside i; founds = m ∷ []; lefts = sym (append-nil ls) i; text = k.text; status = b.running i; wants = false })

        comes_to : last ≡ behind ls (steps code j.0 found)
        comes_to =
            let swap : j.0 + first.few ≡ first.few + j.0 = omega arith in
            sym (stays_over code first.few last over) ∙ sym (more_steps code j.0 first.few (start (init t) f')) ∙ ap (λ n. steps code n (start (init t) f')) swap
            ∙ more_steps code first.few j.0 (start (init t) f') ∙ ap (steps code j.0) at ∙ steps_behind code j.0 ls found

        l : Left code (bounds p) fits 0 (steps code j.0 found) (begun_solo 0 m k.configuration b.first k.text) []
        l = from_begin code (bounds p) fits 0 m refl (sized (bounds p) m is) j.0 k.configuration k.text b.first b.cancelled b.begins (subst (λ (x : Sequential C). (x.wants ≡ true) ⊎ (x.status ≢ Running)) comes_to over)

        k' : Sequential C
        k' = found_all l.there.c [] l.there.text l.there.status l.there.wants

        ends : last ≡ behind ls (found_all l.there.c (l.left ∷ []) l.there.text l.there.status l.there.wants)
        ends = comes_to ∙ ap (behind ls) l.there.meaning

        turn : Turn code k m l.left k'
        turn = record {
          made = j.0;
          does = ap (steps code j.0) same_found ∙ l.there.meaning;
          rests = record { found = refl; left = refl; goes_no_further = subst (λ (x : Sequential C). (x.wants ≡ true) ⊎ (x.status ≢ Running)) ends over };
        }

        again : Rests code (bounds p) init t f' (ls ++ l.left ∷ []) k'
        again = goes code (bounds p) init t f ls k m l.left k' is r.rests wants turn

    module _ (count ticks : ℕ) where
      abbrev now_at : Memory → List (List Memory) → Progress
      now_at m fs = record { memory = m; founds = fs }

      -- where an order leads, threads rest
      record Led (done : List ℕ) (m : Memory) (ks : List (Sequential C)) : Type 0 where
        fs : List (List Memory)
        now : after p count ticks done ≡ now_at m fs
        is : IsMemory (bounds p) m
        many : length ks ≡ count
        all : (t : ℕ) (k : Sequential C) → slice_get ks t ≡ Some k → (ls : List Memory) × RestsIn t (get_or fs t []) ls k

      enters : (done : List ℕ) (t : ℕ) (m : Memory) (ks : List (Sequential C)) → t < count → Led done m ks
          → (thread p t (founds_at p count ticks done t) ticks).end ≢ Stopped Spent → (thread p t (founds_at p count ticks (done ++ t ∷ []) t) ticks).end ≢ Stopped Spent
          → (m' : Memory) × (ks' : List (Sequential C)) × EntryLeads end_at_rest (Turn code) t m ks m' ks' × Led (done ++ t ∷ []) m' ks'
      enters done t m ks lt d here later = by (wants_or (end_at_rest one.0))
        where
          one : (k : Sequential C) × (slice_get ks t ≡ Some k)
          one = there_is ks t (let e = d.many in omega (arith, lt, e))

          f : List Memory
          f = get_or d.fs t []

          rest : (ls : List Memory) × RestsIn t f ls one.0
          rest = d.all t one.0 one.1

          ls : List Memory
          ls = rest.0

          does : thread p t f ticks ≡ told ls one.0
          does = does_now t ticks f ls one.0 rest.1.rests (subst (λ (x : Progress). (thread p t (get_or x.founds t []) ticks).end ≢ Stopped Spent) d.now here)

          entered : after p count ticks (done ++ t ∷ []) ≡ if_wanting (thread p) ticks (thread p t f ticks).end (finds (thread p) ticks t f (now_at m d.fs)) (now_at m d.fs)
          entered = entries_more (thread p) ticks done t _ ∙ ap (entry (thread p) ticks t) d.now

          wide : length d.fs ≡ count
          wide = ap (λ (x : Progress). length x.founds) (sym d.now) ∙ after_size p count ticks done

          by : (end_at_rest one.0 ≡ Stopped Wants) ⊎ (end_at_rest one.0 ≢ Stopped Wants) → (m' : Memory) × (ks' : List (Sequential C)) × EntryLeads end_at_rest (Turn code) t m ks m' ks' × Led (done ++ t ∷ []) m' ks'
          by (inr idle) = (
            m,
            ks,
            record { one = one.0; there = one.1; goes = inl (idle, refl, refl) },
            record {
              fs = d.fs;
              now = entered ∙ stays (thread p) ticks (thread p t f ticks).end (finds (thread p) ticks t f (now_at m d.fs)) (now_at m d.fs) (λ w. idle (sym (ap (λ (o : Outcome). o.end) does) ∙ w));
              is = d.is;
              many = d.many;
              all = d.all;
            },
          )
          by (inl wants) = (
            g.left,
            set ks t g.next,
            record { one = one.0; there = one.1; goes = inr (wants, g.next, g.turn, refl) },
            record {
              fs = set d.fs t f';
              now = found ∙ (λ i. now_at (last_left m (drop (length (does i).lefts) (g.does i).lefts)) (set d.fs t f')) ∙ ap (λ l. now_at (last_left m l) (set d.fs t f')) (drop-append_seam ls (g.left ∷ []));
              is = g.is;
              many = length-set ks t g.next ∙ d.many;
              all = each;
            },
          )
            where
              f' : List Memory
              f' = f ++ m ∷ []

              found : after p count ticks (done ++ t ∷ []) ≡ finds (thread p) ticks t f (now_at m d.fs)
              found = entered ∙ ap (λ x. if_wanting (thread p) ticks x (finds (thread p) ticks t f (now_at m d.fs)) (now_at m d.fs)) (ap (λ (o : Outcome). o.end) does ∙ wants)

              got : get_or (set d.fs t f') t [] ≡ f'
              got = get_set d.fs t f' (omega (arith, lt, wide))

              none : (thread p t f' ticks).end ≢ Stopped Spent
              none = subst (λ x. (thread p t x ticks).end ≢ Stopped Spent) (ap (λ (x : Progress). get_or x.founds t []) found ∙ got) later

              g : Goes t ticks f ls one.0 m
              g = goes_at t ticks f ls one.0 m d.is rest.1 wants none

              each : (u : ℕ) (k : Sequential C) → slice_get (set ks t g.next) u ≡ Some k → (ls' : List Memory) × RestsIn u (get_or (set d.fs t f') u []) ls' k
              each u k e = which (eqb_tells u t)
                where
                  which : ((u == t) ≡ true) × (u ≡ t) ⊎ ((u == t) ≡ false) × (u ≢ t) → (ls' : List Memory) × RestsIn u (get_or (set d.fs t f') u []) ls' k
                  which (inl h) =
                      let it : g.next ≡ k = some_same g.next k (sym (get-set_same ks t g.next one.0 one.1) ∙ ap (slice_get (set ks t g.next)) (sym h.1) ∙ e) in (
                        ls ++ g.left ∷ [],
                        subst (λ v. RestsIn v (get_or (set d.fs t f') v []) (ls ++ g.left ∷ []) k) (sym h.1)
                            (subst (λ x. RestsIn t x (ls ++ g.left ∷ []) k) (sym got) (subst (RestsIn t f' (ls ++ g.left ∷ [])) it g.rests)),
                      )
                  which (inr h) =
                      let old = d.all u k (sym (get-set_other ks t u g.next h.1) ∙ e) in
                      (old.0, subst (λ x. RestsIn u x old.0 k) (sym (get_or-set_other d.fs t u f' [] h.1)) old.1)

      leads_on : (rest done : List ℕ) (m : Memory) (ks : List (Sequential C)) → IsOrderAmong count rest → NoneIsSpent (told_in p count ticks (done ++ rest)) → Led done m ks
          → (last : Memory) × (ends : List (Sequential C)) × OrderLeads end_at_rest (Turn code) rest m ks last ends × Led (done ++ rest) last ends
      leads_on [] done m ks named none d = (m, ks, (refl, refl), subst (λ o. Led o m ks) (sym (append-nil done)) d)
      leads_on (t ∷ rest) done m ks named none d =
          let lt : t < count = named 0 t (omega arith) in
          let joined : (done ++ t ∷ []) ++ rest ≡ done ++ t ∷ rest = append_assoc done (t ∷ []) rest in
          let none' : NoneIsSpent (told_in p count ticks ((done ++ t ∷ []) ++ rest)) = subst (λ o. NoneIsSpent (told_in p count ticks o)) (sym joined) none in
          let e = enters done t m ks lt d (unspent_before p count ticks done (t ∷ rest) t lt none) (unspent_before p count ticks (done ++ t ∷ []) rest t lt none') in
          let more = leads_on rest (done ++ t ∷ []) e.0 e.1 (λ i x below. named (suc i) x (omega (arith, below))) none' e.3 in
          (more.0, more.1, (e.0, e.1, e.2, more.2), subst (λ o. Led o more.0 more.1) joined more.3)

      -- all threads at their beginnings
      record First (u n : ℕ) : Type 0 where
        ks : List (Sequential C)
        many : length ks ≡ n
        begin : AllBegin (Rests code (bounds p) init) u ks
        all : (t : ℕ) (k : Sequential C) → slice_get ks t ≡ Some k → RestsIn (u + t) [] [] k

      first_all : (n u : ℕ) → u + n ≤ 2 ^ 32 → ((t : ℕ) → t < u + n → (thread p t [] ticks).end ≢ Stopped Spent) → First u n
      first_all zero u few none = record { ks = []; many = refl; begin = tt; all = λ t k e. absurd (none-some k e) }
      first_all (suc n) u few none =
          let b = begins_at u ticks (omega (arith, few)) (none u (omega arith)) in
          let more = first_all n (u + 1) (omega (arith, few)) (λ t lt. none t (omega (arith, lt))) in
          let rests : Rests code (bounds p) init u [] [] b.0 = b.1.rests in
          record {
            ks = b.0 ∷ more.ks;
            many = ap suc more.many;
            begin = (rests, more.begin);
            all = each b.0 b.1 more.ks more.all;
          }
        where
          each : (k : Sequential C) → RestsIn u [] [] k → (ks : List (Sequential C)) → ((t : ℕ) (x : Sequential C) → slice_get ks t ≡ Some x → RestsIn (u + 1 + t) [] [] x) → (t : ℕ) (x : Sequential C) → slice_get (k ∷ ks) t ≡ Some x → RestsIn (u + t) [] [] x
          each k r ks all zero x e = let z : u ≡ u + 0 = omega arith in subst (λ v. RestsIn v [] [] x) z (subst (RestsIn u [] []) (some_same k x e) r)
          each k r ks all (suc t) x e = let z : u + 1 + t ≡ u + suc t = omega arith in subst (λ v. RestsIn v [] [] x) z (all t x e)

      told_each : (u : ℕ) (ks : List (Sequential C)) (fs : List (List Memory)) → length ks ≡ length fs → ((t : ℕ) (k : Sequential C) → slice_get ks t ≡ Some k → told_of_outcome (thread p (u + t) (get_or fs t []) ticks) ≡ told_at_rest end_at_rest text_at_rest k)
          → map told_of_outcome (outcomes (thread p) ticks u fs) ≡ map (told_at_rest end_at_rest text_at_rest) ks
      told_each u [] [] size all = refl
      told_each u [] (f ∷ fs) size all = absurd (cc)
      told_each u (k ∷ ks) [] size all = absurd (cc)
      told_each u (k ∷ ks) (f ∷ fs) size all =
          let z : u + 0 ≡ u = omega arith in
          ap₂ (λ x xs. x ∷ xs) (subst (λ v. told_of_outcome (thread p v f ticks) ≡ told_at_rest end_at_rest text_at_rest k) z (all 0 k refl))
          (told_each (u + 1) ks fs (cc) (λ t x e. let s : u + suc t ≡ u + 1 + t = omega arith in subst (λ v. told_of_outcome (thread p v (get_or fs t []) ticks) ≡ told_at_rest end_at_rest text_at_rest x) s (all (suc t) x e)))

    pub source_orders_lead : SourceOrdersLead code init p
    source_orders_lead count ticks order few named none =
        let b : First count ticks 0 count = first_all count ticks count 0 (omega (arith, few)) (λ t lt. let l : t < count = omega (arith, lt) in
        subst (λ fs. (thread p t fs ticks).end ≢ Stopped Spent) (nothing count t) (unspent_before p count ticks [] order t l none)) in
        let d : Led count ticks [] (initial_memory p) b.ks = record {
          fs = replicate count [];
          now = refl;
          is = is_memory;
          many = b.many;
          all = λ t k e. let z : 0 + t ≡ t = omega arith in ([], subst (λ fs. RestsIn t fs [] k) (sym (nothing count t)) (subst (λ v. RestsIn v [] [] k) z (b.all t k e)));
        } in
        let l = leads_on count ticks order [] (initial_memory p) b.ks named none d in
        let wide : length l.3.fs ≡ count = ap (λ (x : Progress). length x.founds) (sym l.3.now) ∙ after_size p count ticks order in
        record {
          ks = b.ks;
          many = b.many;
          begin = b.begin;
          last = l.0;
          rest = l.1;
          leads = l.2;
          memory = ap (λ (x : Progress). x.memory) l.3.now;
          told = ap (λ (x : Progress). map told_of_outcome (outcomes (thread p) ticks 0 x.founds)) l.3.now
              ∙ told_each count ticks 0 l.1 l.3.fs (l.3.many ∙ sym wide) (λ t k e.
              let r = l.3.all t k e in
              let size = l.3.many in
              let within = slice_get_within l.1 t k e in
              let lt : t < count = omega (arith, within, size) in
              let z : t ≡ 0 + t = omega arith in
              let unspent_here : (thread p t (get_or l.3.fs t []) ticks).end ≢ Stopped Spent = subst (λ (x : Progress). (thread p t (get_or x.founds t []) ticks).end ≢ Stopped Spent) l.3.now (unspent_in p count ticks order t lt none) in
              subst (λ v. told_of_outcome (thread p v (get_or l.3.fs t []) ticks) ≡ told_at_rest end_at_rest text_at_rest k) z
              (ap told_of_outcome (does_now t ticks (get_or l.3.fs t []) r.0 k r.1.rests unspent_here)));
        }
      where
        none_found : List Memory
        none_found = []

        nothing : (n t : ℕ) → get_or (replicate n none_found) t none_found ≡ none_found
        nothing zero t = refl
        nothing (suc n) zero = refl
        nothing (suc n) (suc t) = nothing n t

    pub source_orders_are_steps : SourceOrdersAreSteps code init p
    source_orders_are_steps count ticks order few named none short =
        let l = source_orders_lead count ticks order few named none in
        let made = subst (λ c. (ts : List ℕ) × WorldRests code l.last l.rest (world_after code init (initial_memory p) c ts) × Reached code init (initial_memory p) c (world_after code init (initial_memory p) c ts) × ((t : ℕ) → drops code t ts (new_world init (initial_memory p) c) ≡ 0) × AreStepsOf code init (initial_memory p) c order ts) l.many
        (orders_are_steps code init p fits is_memory l.ks order l.last l.rest l.begin l.leads short) in
        record {
          trace = made.0;
          reached = made.2;
          even = made.1.even;
          memory = made.1.memory ∙ sym l.memory;
          told = told_alike l.rest _ made.1.parts ∙ sym l.told;
          idle = idle_all l.rest _ made.1.parts;
          undropped = made.3;
          turns = made.4;
        }

pub machine_does_all : {C : Type 0} (code : C → Effect C) (init : ℕ → C) → MachineDoesAll code init
machine_does_all code init p fits means = source_orders_are_steps code init p fits (begins_with_memory p) means
