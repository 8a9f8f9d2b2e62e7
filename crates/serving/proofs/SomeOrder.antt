-- The report of a run of the source is that of an order.
use Rattle.std.proofs.Common.{◌≡◌, ◌≢◌, ◌⊎◌, inl, inr, ℕ, zero, suc, ◌<◌, ◌≤◌, ◌+◌, Bool, true, false, List, [], ◌∷◌, ◌++◌, Option, None, map, length, Some, slice_get, refl, sym, ap, ap₂, ◌∙◌, subst, arith, append-nil, length-append}
use Rattle.std.specs.List.{AllByRecursion}
use Rattle.std.specs.Prelude.{option_map}
use Rattle.std.proofs.lemmas.List.{length-map}
use Rattle.std.proofs.lemmas.Option.{slice_get-map, slice_get_within}
use Rattle.syntax.specs.Tree.{Program}
use Rattle.syntax.specs.Names.{globals, initial_memory}
use Rattle.syntax.specs.declared.thread_end.Halt.TheVariants.{Spent}
use Rattle.syntax.specs.Behaviours.{ThreadEnd, Stopped, Step, founds_of, lefts_of, of_thread}
use Rattle.syntax.specs.Orders.{OrderOutcome, in_order}
use Rattle.syntax.specs.Threads.{thread}
use Rattle.syntax.specs.Laws.{GoesOn, MoreTicks, NeverMoreLeft}
use Rattle.syntax.specs.OrderLaws.{IsItsOrder, RunsAreOrders}
use Rattle.meaning.specs.InOrder.{NamesThreads}
use Rattle.report.specs.Printed.{Event, Shown, ThreadShown, Printed}
use Rattle.serving.specs.Laws as laws
use Rattle.serving.specs.Orders.{IsOrderOf, LeavesSomeOrder}
use Rattle.serving.specs.Replays.{behind_events}
use Rattle.serving.specs.Reports.{has_stopped, is_stopped}
use Rattle.serving.specs.Shows.{order_end, shown_globals, thread_shown}
use Rattle.serving.specs.inner.Serial.{IsSerial}
use Rattle.serving.proofs.Serial.{any_no, free_replay, free_run, no_run_events, same_some, serial_replay, serial_run}

-- ---- lists by their elements

same_lists : {X : Type 0} (xs ys : List X) → length xs ≡ length ys → ((t : ℕ) (x : X) → slice_get xs t ≡ Some x → slice_get ys t ≡ Some x) → xs ≡ ys
same_lists [] [] l e = refl
same_lists [] (y ∷ ys) l e = absurd (cc)
same_lists (x ∷ xs) [] l e = absurd (cc)
same_lists (x ∷ xs) (y ∷ ys) l e =
    let h : Some y ≡ Some x = e 0 x refl in
    let hd : x ≡ y = cc in
    let l' : length xs ≡ length ys = omega (arith, l) in
    ap₂ (λ a b. a ∷ b) hd (same_lists xs ys l' (λ t z at. e (suc t) z at))

element_at : {X : Type 0} (xs : List X) (t : ℕ) → t < length xs → (x : X) × (slice_get xs t ≡ Some x)
element_at [] t lt = absurd (omega (arith, lt))
element_at (x ∷ xs) zero lt = (x, refl)
element_at (x ∷ xs) (suc t) lt = element_at xs t (omega (arith, lt))

-- no longer than its prefix
no_more : {X : Type 0} (xs ys more : List X) → ys ≡ xs ++ more → length ys ≤ length xs → ys ≡ xs
no_more xs ys [] e le = e ∙ append-nil xs
no_more xs ys (x ∷ more) e le =
    let l : length ys ≡ length xs + length (x ∷ more) = ap length e ∙ length-append xs (x ∷ more) in
    let n : length (x ∷ more) ≡ suc (length more) = refl in
    absurd (omega (arith, l, n, le))

-- as many remain as are found
as_many : (ss : List Step) → length (map (λ (s : Step). s.left) ss) ≡ length (map (λ (s : Step). s.found) ss)
as_many [] = refl
as_many (s ∷ ss) = ap suc (as_many ss)

-- the order names threads of the run
pub named : (threads : ℕ) (run : List Step) → AllByRecursion (λ (s : Step). s.thread < threads) run → NamesThreads threads (map (λ (s : Step). s.thread) run)
named threads [] a k d lt = absurd (omega (arith, lt))
named threads (s ∷ run) a zero d lt = a.0
named threads (s ∷ run) a (suc k) d lt = named threads run a.1 k d (omega (arith, lt))

not_spent : (e : ThreadEnd) → is_stopped (order_end e) ≡ false → e ≢ Stopped Spent
not_spent e still is = let f : true ≡ false = ap (λ x. is_stopped (order_end x)) (sym is) ∙ still in cc

-- ---- enough ticks for all threads

-- with more ticks, a thread still leaves what it leaves in a run
module _ (goes_on : GoesOn) (never_more : NeverMoreLeft) (p : Program) (run : List Step) where
  pub leaves_more : (t n k : ℕ) → (thread p t (founds_of t run) n).lefts ≡ lefts_of t run → (thread p t (founds_of t run) (n + k)).lefts ≡ lefts_of t run
  leaves_more t n k l =
      let g = goes_on p t (founds_of t run) [] n k in
      let e : founds_of t run ++ [] ≡ founds_of t run = append-nil (founds_of t run) in
      let more : (thread p t (founds_of t run) (n + k)).lefts ≡ (thread p t (founds_of t run) n).lefts ++ g.further = subst (λ fs. (thread p t fs (n + k)).lefts ≡ (thread p t (founds_of t run) n).lefts ++ g.further) e g.lefts in
      let few : length (thread p t (founds_of t run) (n + k)).lefts ≤ length (founds_of t run) = never_more p t (founds_of t run) (n + k) in
      let all : length (lefts_of t run) ≡ length (founds_of t run) = as_many (of_thread t run) in
      let here : length (thread p t (founds_of t run) n).lefts ≡ length (lefts_of t run) = ap length l in
      no_more (thread p t (founds_of t run) n).lefts (thread p t (founds_of t run) (n + k)).lefts g.further more (omega (arith, few, all, here)) ∙ l

module _ (more_ticks : MoreTicks) (goes_on : GoesOn) (never_more : NeverMoreLeft) (p : Program) (threads : ℕ) (shown : Printed) (s : IsSerial p threads shown) where
  -- with this many ticks the thread leaves what it leaves in the run, and does what is shown of it if it has terminated
  abbrev Leaves : ℕ → ℕ → Type 0
  Leaves t n = (thread p t (founds_of t s.run) n).lefts ≡ lefts_of t s.run

  abbrev Shows : ℕ → ℕ → Type 0
  Shows t n = (this : ThreadShown) → slice_get shown.threads t ≡ Some this → is_stopped this.end ≡ false → this ≡ thread_shown (thread p t (founds_of t s.run) n)

  does_more : (t n k : ℕ) → Leaves t n × Shows t n → Leaves t (n + k) × Shows t (n + k)
  does_more t n k d = (
    leaves_more goes_on never_more p s.run t n k d.0,
    λ this at quiet.
        let is : this ≡ thread_shown (thread p t (founds_of t s.run) n) = d.1 this at quiet in
        let still : is_stopped (order_end (thread p t (founds_of t s.run) n).end) ≡ false = ap (λ (x : ThreadShown). is_stopped x.end) (sym is) ∙ quiet in
        is ∙ ap thread_shown (sym (more_ticks p t (founds_of t s.run) n k (not_spent _ still))),
  )

  mine : (t : ℕ) → t < threads → (n : ℕ) × (Leaves t n × Shows t n)
  mine t lt = by (is_stopped this.0.end) refl
    where
      this : (x : ThreadShown) × (slice_get shown.threads t ≡ Some x)
      this = let c : length shown.threads ≡ threads = s.count in element_at shown.threads t (omega (arith, c, lt))

      only : (x : ThreadShown) → slice_get shown.threads t ≡ Some x → this.0 ≡ x
      only x at = same_some this.0 x (sym this.1 ∙ at)

      by : (b : Bool) → is_stopped this.0.end ≡ b → (n : ℕ) × (Leaves t n × Shows t n)
      by true e = (
        (s.is_run.each t lt).0,
        (
          (s.is_run.each t lt).1,
          λ x at quiet.
              let f : true ≡ false = sym e ∙ ap (λ (y : ThreadShown). is_stopped y.end) (only x at) ∙ quiet in
              absurd (cc),
        ),
      )
      by false e =
          let o = s.each t this.0 this.1 e in
          (o.0, (o.1, λ x at quiet. sym (only x at) ∙ o.2))

  enough : (k : ℕ) → k ≤ threads → (n : ℕ) × ((t : ℕ) → t < k → Leaves t n × Shows t n)
  enough zero le = (0, λ t lt. absurd (omega (arith, lt)))
  enough (suc k) le =
      let before = enough k (omega (arith, le)) in
      let this = mine k (omega (arith, le)) in
      (before.0 + this.0, λ t lt. at t this.0 before.0 (before.1 t) this.1 (below t k lt))
    where
      below : (t k : ℕ) → t < suc k → (t < k) ⊎ (t ≡ k)
      below zero zero lt = inr refl
      below zero (suc k) lt = inl (omega arith)
      below (suc t) zero lt = absurd (omega (arith, lt))
      below (suc t) (suc k) lt = next (below t k (omega (arith, lt)))
        where
          next : (t < k) ⊎ (t ≡ k) → (suc t < suc k) ⊎ (suc t ≡ suc k)
          next (inl l) = inl (omega (arith, l))
          next (inr e) = inr (ap suc e)

      at : (t a b : ℕ) → (t < k → Leaves t b × Shows t b) → Leaves k a × Shows k a → (t < k) ⊎ (t ≡ k) → Leaves t (b + a) × Shows t (b + a)
      at t a b first last (inl l) = does_more t b a (first l)
      at t a b first last (inr e) =
          let c : a + b ≡ b + a = omega arith in
          subst (λ x. Leaves x (b + a) × Shows x (b + a)) (sym e) (subst (λ n. Leaves k n × Shows k n) c (does_more k a b last))

  abbrev pub ordered : LeavesSomeOrder p threads shown → OrderOutcome
  ordered l = in_order (thread p) (initial_memory p) threads l.ticks l.order

  pub some_order : RunsAreOrders → (l : LeavesSomeOrder p threads shown) × (length (ordered l).threads ≡ threads)
  some_order runs_are_orders =
      let n = enough threads (omega arith) in
      let i : IsItsOrder p threads n.0 s.run = runs_are_orders p threads n.0 s.run s.is_run (λ t lt. (n.1 t lt).0) in
      let o : OrderOutcome = in_order (thread p) (initial_memory p) threads n.0 (map (λ (x : Step). x.thread) s.run) in (
        record {
          ticks = n.0;
          order = map (λ (x : Step). x.thread) s.run;
          named = named threads s.run s.is_run.named;
          globals = s.globals ∙ ap (shown_globals (globals p)) (sym i.memory);
          each = λ t this at quiet.
              let within : t < length shown.threads = slice_get_within shown.threads t this at in
              let c : length shown.threads ≡ threads = s.count in
              let lt : t < threads = omega (arith, c, within) in
              slice_get-map thread_shown o.threads t ∙ ap (option_map thread_shown) (i.each t lt) ∙ ap Some (sym ((n.1 t lt).1 this at quiet));
          run = s.run;
          is_run = s.is_run;
          order_is = refl;
          prints = s.prints;
        },
        i.count,
      )

  -- if all threads have terminated, the order shows everything that is shown
  pub an_order : RunsAreOrders → has_stopped shown ≡ false → shown.holder ≡ None → (ticks : ℕ) × (order : List ℕ) × IsOrderOf p threads ticks order (behind_events shown)
  an_order runs_are_orders none holder =
      let l = some_order runs_are_orders in
      let o : OrderOutcome = ordered l.0 in
      let counts : length (map thread_shown o.threads) ≡ threads = length-map o.threads thread_shown ∙ l.1 in
      let all : shown.threads ≡ map thread_shown o.threads =
      same_lists shown.threads (map thread_shown o.threads) (s.count ∙ sym counts)
      (λ t this at. l.0.each t this at (any_no (λ (x : ThreadShown). is_stopped x.end) shown.threads t this none at)) in (
        l.0.ticks,
        l.0.order,
        record { named = l.0.named; shows = fields _ _ all l.0.globals holder },
      )
    where
      fields : (ts : List ThreadShown) (gs : List Shown) → shown.threads ≡ ts → shown.globals ≡ gs → shown.holder ≡ None → behind_events shown ≡ record { events = None; threads = ts; globals = gs; holder = None }
      fields ts gs f g h =
          ap₂ (λ (v : List ThreadShown) (u : List Shown). record { events = None; threads = v; globals = u; holder = shown.holder }) f g
          ∙ ap (λ (v : Option ℕ). record { events = None; threads = ts; globals = gs; holder = v }) h

module _ (more_ticks : MoreTicks) (goes_on : GoesOn) (never_more : NeverMoreLeft) (runs_are_orders : RunsAreOrders) where
  pub runs_are_of_orders : laws.ConcurrentRunsAreOrders
  runs_are_of_orders threads budget text shown r none =
      let p : Program = r.compiled.source.program in
      let free : shown.holder ≡ None = free_run p r.code threads budget shown r.run none in
      let s = serial_run p r.code threads budget shown r.run r.compiled.compiled.globals free in
      let o = an_order more_ticks goes_on never_more p threads shown s runs_are_orders none free in
      record {
        ticks = o.0;
        order = o.1;
        in_order = record {
          source = r.compiled.source;
          spelled = r.compiled.spelled;
          run = subst (IsOrderOf p threads o.0 o.1) (no_events shown (no_run_events p r.code threads budget shown r.run)) o.2;
        };
      }
    where
      no_events : (shown : Printed) → shown.events ≡ None → behind_events shown ≡ shown
      no_events shown e = ap (λ (v : Option (List (ℕ × ℕ × Event))). record shown { events = v }) (sym e)

  pub runs_leave_orders : laws.ConcurrentRunsLeaveOrders
  runs_leave_orders p code threads budget shown compiled r free =
      (some_order more_ticks goes_on never_more p threads shown (serial_run p code threads budget shown r compiled.globals free) runs_are_orders).0

  pub replays_are_of_orders : laws.ReplaysAreOrders
  replays_are_of_orders threads steps schedule text shown r none =
      let c = r.replay.compiled in
      let p : Program = c.source.program in
      let free : shown.holder ≡ None = free_replay p r.code threads r.replay.found r.made None shown r.replay.replay none in
      let s = serial_replay p r.code threads r.replay.found r.made None shown c.compiled.globals r.replay.replay free in
      let o = an_order more_ticks goes_on never_more p threads shown s runs_are_orders none free in
      record {
        ticks = o.0;
        order = o.1;
        in_order = record { source = c.source; spelled = c.spelled; run = o.2 };
      }

  pub replays_leave_orders : laws.ReplaysLeaveOrders
  replays_leave_orders p code threads found made stopped shown compiled r free =
      (some_order more_ticks goes_on never_more p threads shown (serial_replay p code threads found made stopped shown compiled.globals r free) runs_are_orders).0
