-- Orders of the source as replays.
use Rattle.std.proofs.Common.{◌≡◌, ◌≢◌, All, ◌%◌, ◌≤◌, ◌^◌, ℕ, zero, suc, true, false, List, [], ◌∷◌, ◌++◌, Option, None, Some, refl, sym, ◌∙◌, ap, ap₂, subst, map, slice_get, append-nil, arith}
use Rattle.std.specs.List.{AllByRecursion}
use Rattle.std.specs.Prelude.{unwrap_or}
use Rattle.std.proofs.lemmas.Option.{none-some}
use Rattle.syntax.specs.Behaviours.{Stopped, IsMemory, Means, Outcome, ThreadEnd}
use Rattle.syntax.specs.Names.{bounds, globals, initial_from, initial_memory}
use Rattle.syntax.specs.Names.{bounds_of as cell_bounds}
use Rattle.syntax.specs.Orders.{in_order}
use Rattle.syntax.specs.Threads.{thread}
use Rattle.syntax.specs.Tree.{Program}
use Rattle.syntax.specs.declared.thread_end.Status.{Status}
use Rattle.syntax.specs.declared.thread_end.Status.TheVariants.{Running, Ended as HasEnded, Trapped as HasTrapped}
use Rattle.syntax.proofs.words.Words.{begins_with_memory}
use Rattle.bytecode.specs.Beginning.{beginning}
use Rattle.bytecode.specs.Code.{Code, Configuration, effect}
use Rattle.bytecode.specs.Effects.{FitsCells}
use Rattle.bytecode.specs.Initial.{initial_of}
use Rattle.bytecode.specs.Sequential.{meaning}
use Rattle.bytecode.specs.Valid.{bounds_of}
use Rattle.machine.specs.Drops.{drops}
use Rattle.machine.specs.Serializable.{world_after}
use Rattle.machine.specs.Resting.{IsThreadAtRest}
use Rattle.machine.specs.States.{attempt_has_lock, thread_has_lock}
use Rattle.machine.specs.Turns.{AreSpansOf}
use Rattle.machine.specs.Worlds.{Part, Reached, World, new_world}
use Rattle.machine.proofs.runs.Programs.{opaque_source}
use Rattle.world.specs.Reports.{end_of, parts_shown, stop_with}
use Rattle.world.specs.declared.stop.StopReason.{StopReason}
use Rattle.world.specs.Simulations.{IsHolder, Simulation, world_of}
use Rattle.replay.specs.declared.line.TheConstants.{MOST_STEPS}
use Rattle.replay.specs.Replays.{EndsAt, first_world, simulation_after, steps_of}
use Rattle.replay.specs.Schedules.{counts}
use Rattle.replay.specs.Turns.{AreLinesOfOrder, line_of}
use Rattle.replay.specs.declared.line.Line.{Line}
use Rattle.replay.proofs.Spans.{named_by_spans}
use Rattle.report.specs.Printed.{Printed, Shown, ThreadShown}
use Rattle.serving.specs.Codes.{IsCodeOf}
use Rattle.serving.specs.Replays.{IsReplayOf, behind_events, end_after_replay, thread_found, world_shown}
use Rattle.serving.specs.Shows.{order_end, shown_globals, thread_shown}
use Rattle.syntax.specs.declared.thread_end.Halt.TheVariants.{Wants}
use Rattle.serving.specs.Outcomes.{shown_in}
use Rattle.serving.specs.Reports.{has_stopped}
use Rattle.serving.proofs.ListedOutcomes.{none_stopped_spent, none_waits}
use Rattle.states.specs.Shown.{NoneWants, told_in, told_of_outcome}
use Rattle.order_steps.specs.Stepped.{IsStepped, end_when_idle, told_when_idle}
use Rattle.order_steps.proofs.Determined.{turns_are_determined}
use Rattle.order_steps.proofs.Sourced.{machine_does_all}
use Rattle.serving.specs.Possible.{OrdersAreReplays, OutcomesAreDone, ShowsOrder, as_waiting, waiting}

-- a thread's output and end, as shown
abbrev show_told : List ℕ × ThreadEnd → ThreadShown
show_told x = record { end = order_end x.1; text = x.0 }

same_end : (st : Status) → waiting (end_after_replay (end_of st)) ≡ order_end (end_when_idle st)
same_end Running = refl
same_end HasEnded = refl
same_end (HasTrapped cause) = refl

same_parts : (t : ℕ) (ps : List (Part Configuration)) → map as_waiting (map thread_found (parts_shown None t ps)) ≡ map show_told (map told_when_idle ps)
same_parts t [] = refl
same_parts t (p ∷ ps) = ap₂ (λ e xs. record { end = e; text = p.thread.text } ∷ xs) (same_end p.thread.status) (same_parts (suc t) ps)

same_told : (os : List Outcome) → map show_told (map told_of_outcome os) ≡ map thread_shown os
same_told [] = refl
same_told (o ∷ os) = ap (λ xs. thread_shown o ∷ xs) (same_told os)

over_end : (st : Status) → end_when_idle st ≢ Stopped Wants → end_after_replay (end_of st) ≡ order_end (end_when_idle st)
over_end Running over = absurd (over refl)
over_end HasEnded over = refl
over_end (HasTrapped cause) over = refl

over_parts : (t : ℕ) (ps : List (Part Configuration)) → All (λ x. x.1 ≢ Stopped Wants) (map told_when_idle ps) → map thread_found (parts_shown None t ps) ≡ map show_told (map told_when_idle ps)
over_parts t [] all = refl
over_parts t (p ∷ ps) all = ap₂ (λ e xs. record { end = e; text = p.thread.text } ∷ xs) (over_end p.thread.status (all 0 (told_when_idle p) (omega arith))) (over_parts (suc t) ps (λ i d below. all (suc i) d (omega (arith, below))))

abbrev as_printed : List ThreadShown → List Shown → Printed
as_printed ts gs = record { events = None; threads = ts; globals = gs; holder = None }

none_has : (code : Code) (ps : List (Part Configuration)) (t : ℕ) (p : Part Configuration) → AllByRecursion (λ (x : Part Configuration). IsThreadAtRest (effect code) x.thread) ps → slice_get ps t ≡ Some p → thread_has_lock p.thread ≡ false
none_has code [] t p all e = absurd (none-some p e)
none_has code (q ∷ ps) zero p all e =
    let is : q ≡ p = ap (λ (o : Option _). unwrap_or o q) e in ap (λ (x : Part Configuration). thread_has_lock x.thread) (sym is) ∙ ap attempt_has_lock all.0.attempt
none_has code (q ∷ ps) (suc t) p all e = none_has code ps t p all.1 e

module _ (p : Program) (code : Code) (threads ticks : ℕ) (order : List ℕ) (compiled : IsCodeOf p code) (fits : FitsCells (effect code) (bounds_of code)) (few : threads ≤ 2 ^ 32) where
  cells : bounds p ≡ bounds_of code
  cells = ap cell_bounds (sym compiled.globals)

  same_first : initial_memory p ≡ initial_of code
  same_first = ap initial_from (sym compiled.globals)

  stepped_world : (s : IsStepped (effect code) (beginning code) p threads ticks order) → world_after (effect code) (beginning code) (initial_memory p) threads s.trace ≡ world_of (simulation_after code threads s.trace)
  stepped_world s = ap (λ m. world_after (effect code) (beginning code) m threads s.trace) same_first

  free_lock : (s : IsStepped (effect code) (beginning code) p threads ticks order) → IsHolder (world_of (simulation_after code threads s.trace)) None
  free_lock s = (
    ap (λ (x : World Configuration). x.lock % 2) (sym (stepped_world s)) ∙ s.even,
    λ t q e. none_has code (world_of (simulation_after code threads s.trace)).parts t q (subst (λ (x : World Configuration). AllByRecursion (λ (y : Part Configuration). IsThreadAtRest (effect code) y.thread) x.parts) (stepped_world s) s.idle) e,
  )

  -- the steps of the order's lines
  module _ (s : IsStepped (effect code) (beginning code) p threads ticks order) where
    spans_are : AreSpansOf (effect code) (beginning code) (initial_of code) threads order s.turns.0
    spans_are = subst (λ m. AreSpansOf (effect code) (beginning code) m threads order s.turns.0) same_first s.turns.1

    lines_are : AreLinesOfOrder code threads order (map line_of s.turns.0)
    lines_are = record { spans = s.turns.0; turns = spans_are; found_is = refl }

    named : counts (map line_of s.turns.0) ≤ MOST_STEPS → steps_of code MOST_STEPS (map line_of s.turns.0) (first_world code threads) ≡ s.trace
    named enough = named_by_spans code s.turns.0 MOST_STEPS (first_world code threads) enough ∙ sym s.turns.2

    replays : counts (map line_of s.turns.0) ≤ MOST_STEPS → IsReplayOf p code threads (map line_of s.turns.0) s.trace None (world_shown p None None (simulation_after code threads s.trace))
    replays enough = record {
      rest = [];
      stop = None;
      named = named enough ∙ sym (append-nil s.trace);
      ends = refl;
      explained = opaque_source (effect code) (beginning code) (bounds_of code) (initial_of code)
          (subst (λ m. IsMemory (bounds_of code) m) same_first (subst (λ b. IsMemory b (initial_memory p)) cells (begins_with_memory p))) fits (thread p)
          (subst (λ b. Means b (meaning (effect code) (beginning code)) (thread p)) cells compiled.means) threads few s.trace;
      holder = free_lock s;
      shows = refl;
      stopped_is = refl;
    }

    -- a replay of lines of the order makes these steps
    same_steps : (found : List Line) (made : List ℕ) (shown : Printed) → AreLinesOfOrder code threads order found → counts found ≤ MOST_STEPS → IsReplayOf p code threads found made None shown → (made ≡ s.trace) × (shown ≡ world_shown p None shown.holder (simulation_after code threads s.trace))
    same_steps found made shown are enough r = (
      is,
      r.shows ∙ ap₂ (λ o m. world_shown p o shown.holder (simulation_after code threads m)) whole is,
    )
      where
        whole_by : (o : Option (ℕ × StopReason)) → None ≡ stop_with o (simulation_after code threads made) → o ≡ None
        whole_by None e = refl
        whole_by (Some u) e = absurd (cc)

        whole : r.stop ≡ None
        whole = whole_by r.stop r.stopped_is

        over : r.rest ≡ []
        over = subst (EndsAt (simulation_after code threads made) r.rest) whole r.ends

        spans : are.spans ≡ s.turns.0
        spans = turns_are_determined (effect code) (beginning code) (initial_of code) threads order are.spans s.turns.0 are.turns spans_are

        lines : found ≡ map line_of s.turns.0
        lines = are.found_is ∙ ap (map line_of) spans

        is : made ≡ s.trace
        is = sym (append-nil made) ∙ ap (λ xs. made ++ xs) (sym over) ∙ sym r.named ∙ ap (λ ls. steps_of code MOST_STEPS ls (first_world code threads)) lines
            ∙ named (subst (λ ls. counts ls ≤ MOST_STEPS) lines enough)

    -- no thread has the lock
    no_holder : (o : Option ℕ) → IsHolder (world_of (simulation_after code threads s.trace)) o → o ≡ None
    no_holder None h = refl
    no_holder (Some t) h =
        let idle = subst (λ (x : World Configuration). AllByRecursion (λ (y : Part Configuration). IsThreadAtRest (effect code) y.thread) x.parts) (stepped_world s) s.idle in
        let free = none_has code (world_of (simulation_after code threads s.trace)).parts t h.1.0 idle h.1.1 in
        absurd (let e : true ≡ false = sym h.1.2 ∙ free in cc)

    shows_order : (found : List Line) (made : List ℕ) (shown : Printed) → AreLinesOfOrder code threads order found → counts found ≤ MOST_STEPS → IsReplayOf p code threads found made None shown → ShowsOrder p code threads ticks order made shown
    shows_order found made shown are enough r = record {
      free = no_holder shown.holder (subst (λ m. IsHolder (world_of (simulation_after code threads m)) shown.holder) same.0 r.holder);
      threads_are = ap (λ (x : Printed). map as_waiting x.threads) same.1 ∙ same_parts 0 (world_of sim).parts ∙ ap (λ (x : World Configuration). map show_told (map told_when_idle x.parts)) (sym (stepped_world s)) ∙ ap (map show_told) s.told
          ∙ same_told (in_order (thread p) (initial_memory p) threads ticks order).threads;
      globals = ap (λ (x : Printed). x.globals) same.1 ∙ ap (shown_globals (globals p)) (ap (λ (x : World Configuration). x.words) (sym (stepped_world s)) ∙ s.memory);
      undropped = λ t. ap₂ (λ m ts. drops (effect code) t ts (new_world (beginning code) m threads)) (sym same_first) same.0 ∙ s.undropped t;
    }
      where
        sim : Simulation
        sim = simulation_after code threads s.trace

        same : (made ≡ s.trace) × (shown ≡ world_shown p None shown.holder sim)
        same = same_steps found made shown are enough r

  -- if no thread needs a memory, the report is that of the order
  same_report : (s : IsStepped (effect code) (beginning code) p threads ticks order) → NoneWants (told_in p threads ticks order) → behind_events (world_shown p None None (simulation_after code threads s.trace)) ≡ shown_in p threads ticks order
  same_report s finished =
      let w = world_of (simulation_after code threads s.trace) in
      let told : map told_when_idle w.parts ≡ told_in p threads ticks order = ap (λ (x : World Configuration). map told_when_idle x.parts) (sym (stepped_world s)) ∙ s.told in
      let none : All (λ x. x.1 ≢ Stopped Wants) (map told_when_idle w.parts) = subst (λ xs. All (λ x. x.1 ≢ Stopped Wants) xs) (sym told) finished in
      ap₂ (λ ts gs. as_printed ts gs)
      (over_parts 0 w.parts none ∙ ap (map show_told) told ∙ same_told (in_order (thread p) (initial_memory p) threads ticks order).threads)
      (ap (shown_globals (globals p)) (ap (λ (x : World Configuration). x.words) (sym (stepped_world s)) ∙ s.memory))

pub orders_are_replays : OrdersAreReplays
orders_are_replays p code threads ticks order c =
    let cells_are : bounds p ≡ bounds_of code = ap cell_bounds (sym c.compiled.globals) in
    let s = machine_does_all (effect code) (beginning code) p (subst (FitsCells (effect code)) (sym cells_are) c.fits) c.compiled.means threads ticks order c.few c.named c.unspent c.short in
    record {
      lines = map line_of s.turns.0;
      are = lines_are p code threads ticks order c.compiled c.fits c.few s;
      can = λ enough. (s.trace, world_shown p None None (simulation_after code threads s.trace), replays p code threads ticks order c.compiled c.fits c.few s enough);
      shows = shows_order p code threads ticks order c.compiled c.fits c.few s;
    }

pub outcomes_are_done : OutcomesAreDone
outcomes_are_done p code threads o compiled fits few one short =
    let ticks = one.0.ticks in
    let this = one.0.order in
    let goes = subst (λ (x : Printed). has_stopped x ≡ false) this.shows one.1 in
    let cells_are : bounds p ≡ bounds_of code = ap cell_bounds (sym compiled.globals) in
    let s = machine_does_all (effect code) (beginning code) p (subst (FitsCells (effect code)) (sym cells_are) fits) compiled.means threads ticks o.order few this.named (none_stopped_spent p threads ticks o.order goes) short in (
      s.trace,
      subst (λ m. Reached (effect code) (beginning code) m threads (world_after (effect code) (beginning code) m threads s.trace)) (ap initial_from (sym compiled.globals)) s.reached,
      free_lock p code threads ticks o.order compiled fits few s,
      same_report p code threads ticks o.order compiled fits few s (none_waits p threads ticks o.order goes) ∙ sym this.shows,
    )
