-- Each order of transactions is a list of the machine's steps.
use Rattle.std.proofs.Common.{◌≡◌, ◌≢◌, ◌⊎◌, inl, inr, ◌%◌, ◌≤◌, ◌<◌, ◌*◌, ◌+◌, ◌-◌, ◌^◌, ◌==◌, cond, true, false, ℕ, zero, suc, List, [], ◌∷◌, ◌++◌, Some, refl, sym, ◌∙◌, ap, ap₂, subst, length, replicate, set, slice_get, append_assoc, arith}
use Rattle.std.proofs.lemmas.Bool.Decides.{eqb_tells}
use Rattle.std.proofs.lemmas.Option.{none-some}
use Rattle.syntax.specs.Behaviours.{IsMemory, Memory, Stopped}
use Rattle.syntax.specs.Names.{bounds, initial_memory}
use Rattle.syntax.specs.Tree.{Program}
use Rattle.syntax.specs.declared.thread_end.Halt.TheVariants.{Wants}
use Rattle.syntax.specs.declared.thread_end.Status.TheVariants.{Running}
use Rattle.bytecode.specs.Effects.{Effect, FitsCells}
use Rattle.bytecode.specs.Effects.Effect.{Begin as BeginEffect}
use Rattle.bytecode.specs.Sequential.{Sequential, end_of, start, steps}
use Rattle.bytecode.proofs.Tables.{some_same}
use Rattle.machine.specs.Drops.{dropped_in, drops}
use Rattle.machine.specs.Serializable.{world_after}
use Rattle.machine.specs.Solo.{outside_thread}
use Rattle.machine.specs.Threads.{Thread}
use Rattle.machine.specs.Turns.{AreBegun, AreTurns, IsTurnOf, RunsIn, Span, steps_in}
use Rattle.machine.specs.Worlds.{Part, Reached, World, new_part, new_parts, new_world, run, step}
use Rattle.machine.proofs.alone.Alone.{Solo, out_solo, solo}
use Rattle.machine.proofs.alone.Beside.{comes_beside, rests_beside, rests_in_world}
use Rattle.machine.proofs.alone.Transaction.{AllGoOn, There, after, found_all, going_at}
use Rattle.machine.proofs.alone.Unstopped.{reached_run, run-append}
use Rattle.machine.proofs.parts.Memories.{sized}
use Rattle.machine.proofs.runs.Serializable.{new_invariant, start_of}
use Rattle.states.specs.Comes.{AllBegin}
use Rattle.states.specs.Leads.{EntryLeads, OrderLeads}
use Rattle.states.specs.Rests.{Rests, Turn, end_at_rest}
use Rattle.order_steps.specs.Resting.{AllRestAs, RestsAs, WorldRests}
use Rattle.order_steps.specs.Stepped.{ComesToRest, OrdersAreSteps}
use Rattle.order_steps.proofs.Turns.{Got, at_begin, at_rest, gets_on_sized}

steps_append : (xs ys : List Span) → steps_in (xs ++ ys) ≡ steps_in xs ++ steps_in ys
steps_append [] ys = refl
steps_append (x ∷ xs) ys = ap (λ ts. replicate x.1 x.0 ++ ts) (steps_append xs ys) ∙ sym (append_assoc (replicate x.1 x.0) (steps_in xs) (steps_in ys))

-- lists of steps, one after another
module _ {C : Type 0} (code : C → Effect C) where
  drops_append : (u : ℕ) (ts us : List ℕ) (w : World C) → drops code u (ts ++ us) w ≡ drops code u ts w + drops code u us (run code ts w)
  drops_append u [] us w = omega arith
  drops_append u (t ∷ ts) us w = let e = drops_append u ts us (step code w t) in omega (arith, e)

  -- another thread drops nothing
  drops_other : (u t n : ℕ) (w : World C) → (t == u) ≡ false → drops code u (replicate n t) w ≡ 0
  drops_other u t zero w ne = refl
  drops_other u t (suc n) w ne = ap (λ b. cond b (dropped_in code w (slice_get w.parts t)) 0 + drops code u (replicate n t) (step code w t)) ne ∙ ap (λ x. 0 + x) (drops_other u t n (step code w t) ne)

  no_drops : (t n : ℕ) (w : World C) → drops code t (replicate n t) w ≡ 0 → (u : ℕ) → drops code u (replicate n t) w ≡ 0
  no_drops t n w none u = by (eqb_tells t u)
    where
      by : ((t == u) ≡ true) × (t ≡ u) ⊎ ((t == u) ≡ false) × (t ≢ u) → drops code u (replicate n t) w ≡ 0
      by (inl h) = subst (λ v. drops code v (replicate n t) w ≡ 0) h.1 none
      by (inr h) = drops_other u t n w h.0

module _ {C : Type 0} (code : C → Effect C) where
  look : (ks : List (Sequential C)) (ps : List (Part C)) (t : ℕ) (one : Sequential C) → AllRestAs code ks ps → slice_get ks t ≡ Some one → (p : Part C) × (slice_get ps t ≡ Some p) × RestsAs code one p.thread
  look [] [] t one rs at = absurd (none-some one at)
  look [] (p ∷ ps) t one rs at = elim rs [ ]
  look (k ∷ ks) [] t one rs at = elim rs [ ]
  look (k ∷ ks) (p ∷ ps) zero one (r, rs) at = (p, refl, subst (λ x. RestsAs code x p.thread) (some_same k one at) r)
  look (k ∷ ks) (p ∷ ps) (suc t) one (r, rs) at = look ks ps t one rs at

  update : (ks : List (Sequential C)) (ps : List (Part C)) (t : ℕ) (k : Sequential C) (p : Part C) → AllRestAs code ks ps → RestsAs code k p.thread → AllRestAs code (set ks t k) (set ps t p)
  update [] [] t k p rs r = tt
  update [] (q ∷ ps) t k p rs r = elim rs [ ]
  update (l ∷ ks) [] t k p rs r = elim rs [ ]
  update (l ∷ ks) (q ∷ ps) zero k p (old, rs) r = (r, rs)
  update (l ∷ ks) (q ∷ ps) (suc t) k p (old, rs) r = (old, update ks ps t k p rs r)

  seam : (front rest : List (Part C)) (p : Part C) → slice_get (front ++ p ∷ rest) (length front) ≡ Some p
  seam [] rest p = refl
  seam (x ∷ front) rest p = seam front rest p

  set_seam : (front rest : List (Part C)) (p q : Part C) → set (front ++ p ∷ rest) (length front) q ≡ front ++ q ∷ rest
  set_seam [] rest p q = refl
  set_seam (x ∷ front) rest p q = ap (λ l. x ∷ l) (set_seam front rest p q)

  length_more : (front : List (Part C)) (p : Part C) → length (front ++ p ∷ []) ≡ suc (length front)
  length_more [] p = refl
  length_more (x ∷ front) p = ap suc (length_more front p)

module _ {C : Type 0} (code : C → Effect C) where
  module _ (bs : List ℕ) (fits : FitsCells code bs) where
    -- a world that a turn leads to, which rests so
    pub record Took (w : World C) (t : ℕ) (last : Memory) (rest : List (Sequential C)) (count : ℕ) : Type 0 where
      pub steps : ℕ
      pub turn : IsTurnOf code w t steps
      pub stands : WorldRests code last rest (run code (replicate steps t) w)
      pub low : (run code (replicate steps t) w).lock ≤ 2 * count
      pub undropped : (u : ℕ) → drops code u (replicate steps t) w ≡ 0

    -- a world that the turns of an order lead to, which rests so
    pub record Came (w : World C) (order : List ℕ) (last : Memory) (rest : List (Sequential C)) (count : ℕ) : Type 0 where
      pub spans : List Span
      pub takes : AreTurns code w order spans
      pub stands : WorldRests code last rest (run code (steps_in spans) w)
      pub low : (run code (steps_in spans) w).lock ≤ 2 * count
      pub undropped : (u : ℕ) → drops code u (steps_in spans) w ≡ 0

    -- a thread that rests and wants no memory does not run
    not_running : (w : World C) (t : ℕ) (k : Sequential C) (p : Part C) → slice_get w.parts t ≡ Some p → RestsAs code k p.thread → end_at_rest k ≢ Stopped Wants → RunsIn code w t → ⊥
    not_running w t k p at r idle runs = by r.rests.goes_no_further
      where
        same : runs.part ≡ p
        same = some_same runs.part p (sym runs.there ∙ at)

        running : k.status ≡ Running
        running = sym (ap (λ (th : Thread C). th.status) r.thread) ∙ ap (λ (x : Part C). x.thread.status) (sym same) ∙ runs.running

        by : (k.wants ≡ true) ⊎ (k.status ≢ Running) → ⊥
        by (inl wants) = idle (ap (λ x. end_of x k.status) wants)
        by (inr over) = over running

    pub one_entry : (w : World C) (t : ℕ) (m : Memory) (ks : List (Sequential C)) (left : Memory) (next : List (Sequential C)) (count : ℕ) → WorldRests code m ks w → length m ≡ length bs → w.lock ≤ 2 * count
        → EntryLeads end_at_rest (Turn code) t m ks left next → Took w t left next (suc count) × (length left ≡ length bs)
    one_entry w t m ks left next count s size low e = by e.goes
      where
        even_after : {l : ℕ} → (l ≡ w.lock) ⊎ (l ≡ w.lock + 2) → l % 2 ≡ 0
        even_after (inl same) = let ev = s.even in omega (arith, same, ev)
        even_after (inr up) = let ev = s.even in omega (arith, up, ev)

        low_after : {l : ℕ} → (l ≡ w.lock) ⊎ (l ≡ w.lock + 2) → l ≤ 2 * suc count
        low_after (inl same) = omega (arith, same, low)
        low_after (inr up) = omega (arith, up, low)

        at : (p : Part C) × (slice_get w.parts t ≡ Some p) × RestsAs code e.one p.thread
        at = look code ks w.parts t e.one s.parts e.there

        by : ((end_at_rest e.one ≢ Stopped Wants) × (left ≡ m) × (next ≡ ks)) ⊎ ((end_at_rest e.one ≡ Stopped Wants) × (other : Sequential C) × Turn code e.one m left other × (next ≡ set ks t other)) → Took w t left next (suc count) × (length left ≡ length bs)
        by (inl (idle, same, unchanged)) = (
          record {
            steps = 0;
            turn = not_running w t e.one at.0 at.1 at.2 idle;
            stands = record { even = s.even; memory = s.memory ∙ sym same; parts = subst (λ x. AllRestAs code x w.parts) (sym unchanged) s.parts };
            low = omega (arith, low);
            undropped = λ u. refl;
          },
          ap length same ∙ size,
        )
        by (inr (wants, other, turn, set_to)) =
            let g : Got code bs fits w t left other = gets_on_sized code bs fits w t at.0 e.one left other s.even (ap length s.memory ∙ size) at.1 at.2
            (subst (λ x. Turn code e.one x left other) (sym s.memory) turn) in
            let c : ComesToRest code w t left other = g.comes in (
              record {
                steps = c.steps;
                turn = c.turn;
                stands = subst (WorldRests code left next) (sym c.world) (record {
                  even = even_after (c.locked);
                  memory = refl;
                  parts = subst (λ x. AllRestAs code x (set w.parts t c.part)) (sym set_to) (update code ks w.parts t other c.part s.parts c.rests);
                });
                low = subst (λ (x : World C). x.lock ≤ 2 * suc count) (sym c.world) (low_after c.locked);
                undropped = no_drops code t c.steps w c.undropped;
              },
              g.sized,
            )

    pub all_entries : (order : List ℕ) (w : World C) (m : Memory) (ks : List (Sequential C)) (last : Memory) (rest : List (Sequential C)) (count : ℕ) → WorldRests code m ks w → length m ≡ length bs → w.lock ≤ 2 * count
        → OrderLeads end_at_rest (Turn code) order m ks last rest → Came w order last rest (count + length order)
    all_entries [] w m ks last rest count s size low (same, unchanged) = record {
      spans = [];
      takes = refl;
      stands = record { even = s.even; memory = s.memory ∙ sym same; parts = subst (λ x. AllRestAs code x w.parts) (sym unchanged) s.parts };
      low = omega (arith, low);
      undropped = λ u. refl;
    }
    all_entries (t ∷ order) w m ks last rest count s size low (mid, mids, e, more) =
        let first = one_entry w t m ks mid mids count s size low e in
        let f = first.0 in
        let then_ = all_entries order (run code (replicate f.steps t) w) mid mids last rest (suc count) f.stands first.1 f.low more in
        record {
          spans = (t, f.steps) ∷ then_.spans;
          takes = (f.steps, then_.spans, refl, f.turn, then_.takes);
          stands = subst (WorldRests code last rest) (sym (run-append code (replicate f.steps t) (steps_in then_.spans) w)) then_.stands;
          low = let l = then_.low in let same = ap (λ (x : World C). x.lock) (run-append code (replicate f.steps t) (steps_in then_.spans) w) in omega (arith, l, same);
          undropped = λ u. drops_append code u (replicate f.steps t) (steps_in then_.spans) w ∙ ap₂ (λ a b. a + b) (f.undropped u) (then_.undropped u);
        }

  module _ (init : ℕ → C) (p : Program) where
    -- up to where all threads rest, before any transaction
    pub record Begun (front : List (Part C)) (t : ℕ) (ks : List (Sequential C)) (lock : ℕ) (words : Memory) : Type 0 where
      pub spans : List Span
      pub back : List (Part C)
      pub begins : AreBegun code (record { lock = lock; words = words; parts = front ++ new_parts init t (length ks) }) t (length ks) spans
      pub world : run code (steps_in spans) (record { lock = lock; words = words; parts = front ++ new_parts init t (length ks) }) ≡ record { lock = lock; words = words; parts = front ++ back }
      pub rests : AllRestAs code ks back
      pub undropped : (u : ℕ) → drops code u (steps_in spans) (record { lock = lock; words = words; parts = front ++ new_parts init t (length ks) }) ≡ 0

    first_rest : (t : ℕ) (k : Sequential C) (lock : ℕ) (words : List ℕ) → Rests code (bounds p) init t [] [] k → RestsAs code k (outside_thread k.configuration k.text k.status) × ((n : ℕ) × (solo code n (out_solo lock words (init t) [] Running) ≡ out_solo lock words k.configuration k.text k.status) × AllGoOn code n (out_solo lock words (init t) [] Running))
    first_rest t k lock words r =
        let a : There code (steps code r.made (start (init t) [])) (out_solo lock words (init t) [] Running) lock words [] = after code lock words [] r.made (init t) [] Running in
        let is : record k { lefts = [] } ≡ found_all a.c [] a.text a.status a.wants = sym r.does ∙ a.meaning in (
          record {
            rests = r.rests;
            outside = ap (λ (x : Sequential C). x.inside) is;
            begins = λ w. at_begin code k.configuration k.status
                (subst (λ (x : Sequential C). (x.status ≡ Running) × ((e : C) × (d : C) × (code x.configuration ≡ BeginEffect e d))) (sym is) (a.begins (sym (ap (λ (x : Sequential C). x.wants) is) ∙ w)));
            thread = refl;
          },
          (a.reach.0, a.reach.1 ∙ (λ i. out_solo lock words (sym is i).configuration (sym is i).text (sym is i).status), a.reach.2),
        )

    pub begin_all : (ks : List (Sequential C)) (front : List (Part C)) (t lock : ℕ) (words : Memory) → length front ≡ t → AllBegin (Rests code (bounds p) init) t ks → Begun front t ks lock words
    begin_all [] front t lock words size b = record { spans = []; back = []; begins = refl; world = refl; rests = tt; undropped = λ u. refl }
    begin_all (k ∷ ks) front t lock words size (r, b) =
        let others : List (Part C) = new_parts init (suc t) (length ks) in
        let mine : Part C = new_part (init t) in
        let f = first_rest t k lock words r in
        let up : t + 1 ≡ suc t = omega arith in
        let here : slice_get (front ++ mine ∷ others) t ≡ Some mine = subst (λ x. slice_get (front ++ mine ∷ others) x ≡ Some mine) size (seam code front others mine) in
        let world_of : List (Part C) → World C = λ ps. record { lock = lock; words = words; parts = ps } in
        let end : Solo C = out_solo lock words k.configuration k.text k.status in
        let made = comes_beside code (world_of (front ++ mine ∷ others)) t mine f.1.0 end here f.1.1 in
        let now : Part C = record { thread = end.thread; base = made.base; records = made.records } in
        let put : (q : Part C) → set (front ++ mine ∷ others) t q ≡ front ++ q ∷ others = λ q. subst (λ x. set (front ++ mine ∷ others) x q ≡ front ++ q ∷ others) size (set_seam code front others mine q) in
        let goes : run code (replicate f.1.0 t) (world_of (front ++ mine ∷ others)) ≡ world_of ((front ++ now ∷ []) ++ others) =
        made.world ∙ ap world_of (put now ∙ sym (append_assoc front (now ∷ []) others)) in
        let none : drops code t (replicate f.1.0 t) (world_of (front ++ mine ∷ others)) ≡ 0 = made.dropped in
        let more = begin_all ks (front ++ now ∷ []) (suc t) lock words (length_more code front now ∙ ap suc size) (subst (λ v. AllBegin (Rests code (bounds p) init) v ks) up b) in
        record {
          spans = (t, f.1.0) ∷ more.spans;
          back = now ∷ more.back;
          begins = (
            f.1.0,
            more.spans,
            refl,
            record {
              first = λ n lt r. going_at code f.1.0 n (out_solo lock words (init t) [] Running) f.1.2 lt (rests_beside code (world_of (front ++ mine ∷ others)) t mine n here r);
              rests = rests_in_world code (world_of (front ++ mine ∷ others)) t mine f.1.0 end here f.1.1 (at_rest code k end.thread f.0);
            },
            subst (λ x. AreBegun code x (suc t) (length ks) more.spans) (sym goes) more.begins,
          );
          world = run-append code (replicate f.1.0 t) (steps_in more.spans) (world_of (front ++ mine ∷ others)) ∙ ap (run code (steps_in more.spans)) goes ∙ more.world ∙ ap world_of (append_assoc front (now ∷ []) more.back);
          rests = (f.0, more.rests);
          undropped = λ u. drops_append code u (replicate f.1.0 t) (steps_in more.spans) (world_of (front ++ mine ∷ others)) ∙ ap₂ (λ a b. a + b) (no_drops code t f.1.0 (world_of (front ++ mine ∷ others)) none u) (ap (drops code u (steps_in more.spans)) goes ∙ more.undropped u);
        }

    module _ (fits : FitsCells code (bounds p)) (is_memory : IsMemory (bounds p) (initial_memory p)) where
      pub orders_are_steps : OrdersAreSteps code init p
      orders_are_steps ks order last rest begin leads short =
          let m0 = initial_memory p in
          let b : Begun [] 0 ks 0 m0 = begin_all ks [] 0 0 m0 refl begin in
          let first : World C = run code (steps_in b.spans) (new_world init m0 (length ks)) in
          let rested : WorldRests code m0 ks first = subst (WorldRests code m0 ks) (sym b.world) (record { even = refl; memory = refl; parts = b.rests }) in
          let low : first.lock ≤ 2 * 0 = subst (λ (x : World C). x.lock ≤ 2 * 0) (sym b.world) (omega arith) in
          let c = all_entries (bounds p) fits order first m0 ks last rest 0 rested (sized (bounds p) m0 is_memory) low leads in
          let ts : List ℕ = steps_in b.spans ++ steps_in c.spans in
          let joined = run-append code (steps_in b.spans) (steps_in c.spans) (new_world init m0 (length ks)) in
          let there : WorldRests code last rest (world_after code init m0 (length ks) ts) = subst (WorldRests code last rest) (sym joined) c.stands in
          let below : (run code ts (new_world init m0 (length ks))).lock < 2 ^ 64 - 1 =
          let l = c.low in let same = ap (λ (x : World C). x.lock) joined in omega (arith, l, same, short) in (
            ts,
            there,
            reached_run code init (bounds p) m0 is_memory fits (length ks) ts (new_world init m0 (length ks)) (start_of m0) (new_invariant code init (bounds p) m0 is_memory (length ks)) below Reached.new,
            λ u. drops_append code u (steps_in b.spans) (steps_in c.spans) (new_world init m0 (length ks)) ∙ ap₂ (λ x y. x + y) (b.undropped u) (c.undropped u),
            (
              b.spans ++ c.spans,
              record { begun = b.spans; turns = c.spans; begins = b.begins; takes = c.takes; are = refl },
              sym (steps_append b.spans c.spans),
            ),
          )
