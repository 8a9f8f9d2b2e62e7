-- The steps that a line names.
use Rattle.std.proofs.Common.{◌≡◌, ◌≢◌, ◌<◌, ◌≤◌, ◌+◌, ◌-◌, ◌==◌, ◌⊎◌, inl, inr, ℕ, zero, suc, Bool, true, false, cond, List, [], ◌∷◌, ◌++◌, Option, None, Some, length, refl, sym, ◌∙◌, ap, subst, slice_get, drop, arith, append_assoc, append-nil}
use Rattle.std.specs.Prelude.{if◌then◌else◌}
use Rattle.std.proofs.lemmas.Bool.Decides.{eqb_tells}
use Rattle.std.proofs.lemmas.Option.{slice_get_past}
use Rattle.bytecode.specs.Code.{Code, Configuration, effect}
use Rattle.machine.specs.declared.event.Event.{Event}
use Rattle.machine.specs.Worlds.{World, run, step}
use Rattle.world.specs.declared.report.Report.{Report}
use Rattle.world.specs.declared.stop.StopReason.{StopReason}
use Rattle.world.specs.Reports.{stop_with, threads_of, threads_shown}
use Rattle.world.specs.Simulations.{IsExplained, IsHolder, Simulation, accesses_in, accesses_of, cost_next, event_at, event_next, further, part_of, world_of}
use Rattle.world.specs.inner.Costs.{cost_at}
use Rattle.world.specs.Stops.{StopsFor}
use Rattle.world.proofs.Stepping.{further_more, further_none, next_accesses, next_world, parts_count}
use Rattle.replay.specs.declared.line.Line.{Line}
use Rattle.replay.specs.declared.line.TheConstants.{MOST_STEPS}
use Rattle.replay.specs.Replays.{IsReplay, events_in, events_of, first_world, is_done, is_over, is_cut_off, is_quiet, line_after, lines_left, simulation_after, steps_of, steps_with, shown_event}
use Rattle.replay.specs.declared.play.ReplayHalt.{ReplayHalt}
use Rattle.replay.specs.declared.play.ReplayHalt.TheVariants.{Stopped, Refused}
use Rattle.replay.specs.inner.Playing.{ComesTo, Going, HaltsAt, HaltsIn, HasPlayed, IsCut, Plays}

module _ (code : Code) where
  -- a line that is done names nothing
  pub done_line : (n : ℕ) (l : Line) (ls : List Line) (w : World Configuration) → is_done w l ≡ true → steps_of code n (l ∷ ls) w ≡ steps_of code n ls w
  unfolding steps_of
  done_line zero l ls w e = refl
  done_line (suc n) l ls w e = ap (λ (b : Bool). steps_with code (steps_of code n) (cond b (lines_left w ls) (l ∷ ls)) w) e

  -- one that is not names a step of its thread
  pub one_more : (n : ℕ) (l : Line) (ls : List Line) (w : World Configuration) → is_done w l ≡ false → steps_of code (suc n) (l ∷ ls) w ≡ l.thread ∷ steps_of code n (line_after code w l ∷ ls) (step (effect code) w l.thread)
  unfolding steps_of
  one_more n l ls w e = ap (λ (b : Bool). steps_with code (steps_of code n) (cond b (lines_left w ls) (l ∷ ls)) w) e

  -- with no room there is none
  no_room : (ls : List Line) (w : World Configuration) → steps_of code 0 ls w ≡ []
  unfolding steps_of
  no_room ls w = refl

  -- nor with no lines
  pub no_lines : (n : ℕ) (w : World Configuration) → steps_of code n [] w ≡ []
  unfolding steps_of
  no_lines zero w = refl
  no_lines (suc n) w = refl

  -- the events with those of one step more
  events_more : (ts : List ℕ) (t : ℕ) (w : World Configuration) (n : ℕ) → events_in code (ts ++ t ∷ []) w n
      ≡ events_in code ts w n ++ shown_event (n + accesses_in code ts w + cost_next code (slice_get (run (effect code) ts w).parts t)) t (event_next code (run (effect code) ts w) (slice_get (run (effect code) ts w).parts t))
  events_more [] t w n = append-nil _ ∙ ap (λ (m : ℕ). shown_event (m + cost_next code (slice_get w.parts t)) t (event_next code w (slice_get w.parts t))) (let e : n ≡ n + 0 = omega arith in e)
  events_more (u ∷ ts) t w n =
      let m : ℕ = n + cost_next code (slice_get w.parts u) in
      let k : m + accesses_in code ts (step (effect code) w u) ≡ n + (cost_next code (slice_get w.parts u) + accesses_in code ts (step (effect code) w u)) = omega arith in
      ap (λ (l : List (ℕ × ℕ × Event)). shown_event m u (event_next code w (slice_get w.parts u)) ++ l) (events_more ts t (step (effect code) w u) m)
      ∙ sym (append_assoc (shown_event m u (event_next code w (slice_get w.parts u))) _ _)
      ∙ ap (λ (j : ℕ). (shown_event m u (event_next code w (slice_get w.parts u)) ++ events_in code ts (step (effect code) w u) m) ++ shown_event (j + cost_next code (slice_get (run (effect code) (u ∷ ts) w).parts t)) t (event_next code (run (effect code) (u ∷ ts) w) (slice_get (run (effect code) (u ∷ ts) w).parts t))) k

pub next_events : (s z : Simulation) (t : ℕ) → z ≡ further s (t ∷ []) → events_of z ≡ events_of s ++ shown_event (accesses_of z) t (event_at s t)
next_events s z t e =
    ap events_of e ∙ events_more s.code s.trace t (first_world s.code s.threads) 0
    ∙ ap (λ (n : ℕ). events_of s ++ shown_event n t (event_at s t)) (let f = next_accesses s t in let g : 0 + accesses_of s + cost_at s t ≡ accesses_of s + cost_at s t = omega arith in g ∙ sym f ∙ ap accesses_of (sym e))

module _ (line : Line) (room : ℕ) where
  pub goes_first : (s : Simulation) → Going line room line.count room s s
  goes_first s = record {
    made = [];
    are = further_none s;
    named = λ ls. refl;
  }

  pub goes : (count left rest : ℕ) (before now next : Simulation) → Going line room count left before now → is_done (world_of now) (record line { count = count }) ≡ false → left ≡ suc rest → next ≡ further now (line.thread ∷ [])
      → Going line room (count - (if line.accesses then cost_at now line.thread else 1)) rest before next
  goes count left rest before now next g on e is = record {
    made = g.made ++ line.thread ∷ [];
    are = is ∙ ap (λ (v : Simulation). further v (line.thread ∷ [])) g.are ∙ further_more before g.made (line.thread ∷ []);
    named = λ ls.
        let l : Line = record line { count = count } in
        let code : before.code ≡ now.code = ap (λ (v : Simulation). v.code) (sym g.are) in
        let one : steps_of now.code left (l ∷ ls) (world_of now) ≡ line.thread ∷ steps_of now.code rest (line_after now.code (world_of now) l ∷ ls) (step (effect now.code) (world_of now) line.thread) = ap (λ n. steps_of now.code n (l ∷ ls) (world_of now)) e ∙ one_more now.code rest l ls (world_of now) on in
        let world : step (effect now.code) (world_of now) line.thread ≡ world_of next = sym (next_world now line.thread) ∙ ap world_of (sym is) in
        g.named ls
        ∙ ap (λ (c : Code). g.made ++ steps_of c left (l ∷ ls) (world_of now)) code
        ∙ ap (λ (xs : List ℕ). g.made ++ xs) one
        ∙ ap (λ (v : World Configuration). g.made ++ line.thread ∷ steps_of now.code rest (line_after now.code (world_of now) l ∷ ls) v) world
        ∙ ap (λ (c : Code). g.made ++ line.thread ∷ steps_of c rest (line_after now.code (world_of now) l ∷ ls) (world_of next)) (sym code)
        ∙ sym (append_assoc g.made (line.thread ∷ []) _);
  }

  pub goes_out : (count left : ℕ) (before now : Simulation) → Going line room count left before now → (left ≡ 0) ⊎ (is_done (world_of now) (record line { count = count }) ≡ true) → Plays line room left before now
  goes_out count left before now g (inl e) = record {
    made = g.made;
    are = g.are;
    named = λ ls. g.named ls ∙ ap (λ (xs : List ℕ). g.made ++ xs) (ap (λ n. steps_of before.code n (record line { count = count } ∷ ls) (world_of now)) e ∙ no_room before.code _ (world_of now) ∙ sym (no_room before.code ls (world_of now)) ∙ ap (λ n. steps_of before.code n ls (world_of now)) (sym e));
  }
  goes_out count left before now g (inr e) = record {
    made = g.made;
    are = g.are;
    named = λ ls. g.named ls ∙ ap (λ (xs : List ℕ). g.made ++ xs) (done_line before.code left (record line { count = count }) ls (world_of now) e);
  }

  pub goes_halt : (count left rest : ℕ) (before now : Simulation) → Going line room count left before now → is_done (world_of now) (record line { count = count }) ≡ false → left ≡ suc rest → IsCut line room before now
  goes_halt count left rest before now g on e = record {
    made = g.made;
    are = g.are;
    named = λ ls. (_, g.named ls ∙ ap (λ (xs : List ℕ). g.made ++ xs) (ap (λ n. steps_of before.code n (record line { count = count } ∷ ls) (world_of now)) e ∙ one_more before.code rest (record line { count = count }) ls (world_of now) on));
  }

-- whether a line is done
pub not_zero : (w : World Configuration) (l : Line) → 0 < l.count → is_cut_off w l ≡ false → is_done w l ≡ false
not_zero w l some e = at l.count some
  where
    at : (n : ℕ) → 0 < n → (if n == 0 then true else is_cut_off w l) ≡ false
    at n lt = over_zero (eqb_tells n 0)
      where
        over_zero : ((n == 0) ≡ true) × (n ≡ 0) ⊎ ((n == 0) ≡ false) × (n ≢ 0) → (if n == 0 then true else is_cut_off w l) ≡ false
        over_zero (inl f) = absurd (let z = f.1 in omega arith)
        over_zero (inr f) = ap (λ (b : Bool). if b then true else is_cut_off w l) f.0 ∙ e

pub at_zero : (w : World Configuration) (l : Line) → l.count ≡ 0 → is_done w l ≡ true
at_zero w l e = ap (λ (n : ℕ). if n == 0 then true else is_cut_off w l) e

pub over : (w : World Configuration) (l : Line) → is_cut_off w l ≡ true → is_done w l ≡ true
over w l e = at (l.count == 0)
  where
    at : (b : Bool) → (if b then true else is_cut_off w l) ≡ true
    at true = refl
    at false = e

-- no other thread is over
pub no_stranger : (s : Simulation) (l : Line) → IsExplained s → s.threads ≤ l.thread → is_cut_off (world_of s) l ≡ false
no_stranger s l k le = at l.accesses
  where
    at : (b : Bool) → (if b then is_over (part_of s l.thread) else false) ≡ false
    at true = ap is_over (slice_get_past (world_of s).parts l.thread (let n = parts_count s k in omega arith))
    at false = refl

module _ (code : Code) (threads : ℕ) (lines : List Line) where
  pub starts : HasPlayed code threads lines MOST_STEPS lines (simulation_after code threads [])
  starts = record { made = []; are = refl; named = refl }

  pub plays_on : (room left : ℕ) (line : Line) (rest : List Line) (now next : Simulation) → HasPlayed code threads lines room (line ∷ rest) now → Plays line room left now next → HasPlayed code threads lines left rest next
  plays_on room left line rest now next h p = record {
    made = h.made ++ p.made;
    are = p.are ∙ ap (λ (v : Simulation). further v p.made) h.are;
    named =
        let same : now.code ≡ code = ap (λ (v : Simulation). v.code) h.are in
        h.named ∙ ap (λ (c : Code). h.made ++ steps_of c room (line ∷ rest) (world_of now)) (sym same) ∙ ap (λ (xs : List ℕ). h.made ++ xs) (p.named rest) ∙ ap (λ (c : Code). h.made ++ (p.made ++ steps_of c left rest (world_of next))) same ∙ sym (append_assoc h.made p.made _);
  }

  -- one that was not played to its end
  pub ends_cut : (room : ℕ) (line : Line) (rest : List Line) (before now : Simulation) (halt : ReplayHalt) (reason : StopReason) (events : List (ℕ × ℕ × Event)) → HasPlayed code threads lines room (line ∷ rest) before → HaltsIn line room halt before now events → halt ≡ Stopped reason → ComesTo code threads lines (Some (line.thread, reason)) now × (events ≡ events_of now)
  ends_cut room line rest before now halt reason events h halts is =
      let cut = subst (λ (v : ReplayHalt). HaltsIn line room v before now events) is halts in
      ((room, line, rest, before, h, cut.0, cut.1, refl), cut.2)

  module _ {A : Type 0} (r : Report A) (now : Simulation) (explained : IsExplained now) (events : r.events.items ≡ events_of now) (trace : r.trace.items ≡ now.trace) where
    pub replays : (stop : Option (ℕ × StopReason)) → ComesTo code threads lines stop now → threads_of r.threads.items ≡ threads_shown stop now → r.words.items ≡ (world_of now).words → IsHolder (world_of now) r.holder → r.stop ≡ stop_with stop now → IsReplay code threads lines r
    replays None e shown words holder stop =
        let h = e.1 in
        record {
          made = h.made;
          rest = [];
          stop = None;
          named = h.named ∙ ap (λ (xs : List ℕ). h.made ++ xs) (no_lines code e.0 (world_of now));
          ends = refl;
          made_is = trace ∙ ap (λ (v : Simulation). v.trace) h.are;
          explained = subst IsExplained h.are explained;
          events = events ∙ ap events_of h.are;
          threads_are = shown ∙ ap (threads_shown None) h.are;
          words = words ∙ ap (λ (v : Simulation). (world_of v).words) h.are;
          holder = subst (λ (v : Simulation). IsHolder (world_of v) r.holder) h.are holder;
          stop_is = stop ∙ ap (stop_with None) h.are;
        }
    replays (Some x) e shown words holder stop =
        let h = e.4 in
        let p = e.5 in
        let made : List ℕ = h.made ++ p.made in
        let are : now ≡ simulation_after code threads made = p.are ∙ ap (λ (v : Simulation). further v p.made) h.are in
        let same : e.3.code ≡ code = ap (λ (v : Simulation). v.code) h.are in
        let cut = p.named e.2 in
        record {
          made = made;
          rest = x.0 ∷ cut.0;
          stop = Some x;
          named = h.named ∙ ap (λ (c : Code). h.made ++ steps_of c e.0 (e.1 ∷ e.2) (world_of e.3)) (sym same) ∙ ap (λ (xs : List ℕ). h.made ++ xs) (cut.1 ∙ ap (λ (t : ℕ). p.made ++ t ∷ cut.0) e.7) ∙ sym (append_assoc h.made p.made _);
          ends = ((cut.0, refl), subst (λ (v : Simulation). StopsFor v x.0 x.1) are e.6);
          made_is = trace ∙ ap (λ (v : Simulation). v.trace) are;
          explained = subst IsExplained are explained;
          events = events ∙ ap events_of are;
          threads_are = shown ∙ ap (threads_shown (Some x)) are;
          words = words ∙ ap (λ (v : Simulation). (world_of v).words) are;
          holder = subst (λ (v : Simulation). IsHolder (world_of v) r.holder) are holder;
          stop_is = stop ∙ ap (stop_with (Some x)) are;
        }

-- a step that was not made cuts its line
pub halted : (line : Line) (room : ℕ) (halt : ReplayHalt) (before now next : Simulation) (events : List (ℕ × ℕ × Event)) → IsCut line room before now → HaltsAt line.thread halt now next events → HaltsIn line room halt before next events
halted line room (Stopped reason) before now next events cut h = (
  subst (IsCut line room before) (sym h.0) cut,
  subst (λ (v : Simulation). StopsFor v line.thread reason) (sym h.0) h.1,
  h.2 ∙ ap events_of (sym h.0),
)
halted line room Refused before now next events cut h = tt

-- the accesses and the events of one step
pub one_step : (s z : Simulation) (t a b : ℕ) → z ≡ further s (t ∷ []) → b ≡ accesses_of s → a ≡ accesses_of z → a ≡ b + cost_at s t
one_step s z t a b e f g = g ∙ ap accesses_of e ∙ next_accesses s t ∙ ap (λ n. n + cost_at s t) (sym f)

pub quiet_events : (s z : Simulation) (t : ℕ) (e : Event) → z ≡ further s (t ∷ []) → e ≡ event_at s t → is_quiet e ≡ true → events_of s ≡ events_of z
quiet_events s z t e is at quiet =
    sym (next_events s z t is ∙ ap (λ (v : Event). events_of s ++ shown_event (accesses_of z) t v) (sym at) ∙ ap (λ (b : Bool). events_of s ++ (if b then [] else (accesses_of z, t, e) ∷ [])) quiet ∙ append-nil (events_of s))

pub loud_events : (s z : Simulation) (t n : ℕ) (e : Event) → z ≡ further s (t ∷ []) → e ≡ event_at s t → is_quiet e ≡ false → n ≡ accesses_of z → events_of s ++ (n, t, e) ∷ [] ≡ events_of z
loud_events s z t n e is at quiet count =
    sym (next_events s z t is ∙ ap (λ (v : Event). events_of s ++ shown_event (accesses_of z) t v) (sym at) ∙ ap (λ (b : Bool). events_of s ++ (if b then [] else (accesses_of z, t, e) ∷ [])) quiet ∙ ap (λ m. events_of s ++ (m, t, e) ∷ []) (sym count))

-- the lines that are left
pub drop_get : (xs : List Line) (i : ℕ) (x : Line) → slice_get xs i ≡ Some x → drop i xs ≡ x ∷ drop (i + 1) xs
drop_get [] i x e = absurd (cc)
drop_get (y ∷ ys) zero x e = let f : y ≡ x = cc in ap (λ (z : Line). z ∷ ys) f
drop_get (y ∷ ys) (suc i) x e = drop_get ys i x e ∙ ap (λ (n : ℕ). x ∷ drop n (y ∷ ys)) (let f : suc (i + 1) ≡ suc i + 1 = omega arith in f)

pub drop_end : (xs : List Line) (n : ℕ) → length xs ≤ n → drop n xs ≡ []
drop_end [] zero le = refl
drop_end [] (suc n) le = refl
drop_end (x ∷ xs) zero le = absurd (omega arith)
drop_end (x ∷ xs) (suc n) le = drop_end xs n (omega arith)
