-- A thread that steps alone beside others: these stay as they are.
use Rattle.std.proofs.Common.{◌≡◌, ◌+◌, ◌-◌, ◌<◌, ◌^◌, cond, ℕ, zero, suc, List, Some, refl, sym, ◌∙◌, ap, subst, replicate, set, set-set, slice_get, arith}
use Rattle.std.proofs.lemmas.Bool.{eq-eqb}
use Rattle.std.proofs.lemmas.List.{set-get_or}
use Rattle.std.proofs.lemmas.Option.{get_or_from_slice_get}
use Rattle.syntax.specs.Behaviours.{IsMemory}
use Rattle.syntax.specs.Orders.{last_left}
use Rattle.bytecode.specs.Effects.{Effect, FitsCells}
use Rattle.bytecode.specs.Sequential.{Sequential}
use Rattle.bytecode.proofs.Tables.{some_same}
use Rattle.machine.specs.Drops.{dropped_in, drops}
use Rattle.machine.specs.Solo.{GoesAs, RunsAlone, StaysReached, meaning_on}
use Rattle.machine.specs.Resting.{IsThreadAtRest}
use Rattle.machine.specs.Threads.{access, step_with}
use Rattle.machine.specs.Turns.{RestsIn}
use Rattle.machine.specs.Worlds.{Part, Reached, Record, World, answer, new_world, part_after, run, step, step_of}
use Rattle.machine.proofs.alone.Alone.{Solo, out_solo, solo, solo_with}
use Rattle.machine.proofs.alone.Transaction.{Did, goes_alone}
use Rattle.machine.proofs.alone.Unstopped.{reached_run, reached_steps}
use Rattle.machine.proofs.runs.Serializable.{new_invariant, start_of}
use Rattle.machine.proofs.steps.Worlds.{get-set_same, run_invariant}

module _ {C : Type 0} (code : C → Effect C) where
  -- one part of a world, with its lock and words
  abbrev pub beside : List (Part C) → ℕ → Solo C → List ℕ → List Record → World C
  beside parts t s base records = record { lock = s.lock; words = s.words; parts = set parts t (record { thread = s.thread; base = base; records = records }) }

  pub steps_beside : (n : ℕ) (parts : List (Part C)) (t : ℕ) (p : Part C) → slice_get parts t ≡ Some p → (s : Solo C) (base : List ℕ) (records : List Record)
      → (base' : List ℕ) × (after : List Record) × (run code (replicate n t) (beside parts t s base records) ≡ beside parts t (solo code n s) base' after)
  steps_beside zero parts t p here s base records = (base, records, refl)
  steps_beside (suc n) parts t p here s base records =
      let mine : Part C = record { thread = s.thread; base = base; records = records } in
      let at : slice_get (set parts t mine) t ≡ Some mine = get-set_same parts t mine p here in
      let s' : Solo C = solo_with code (code s.thread.configuration) s in
      let now : Part C = part_after s.words mine (step_with code s.thread (answer s.lock s.words (access code s.thread))) in
      let more = steps_beside n parts t p here s' now.base now.records in (
        more.0,
        more.1,
        ap (λ o. run code (replicate n t) (step_of code (beside parts t s base records) t o)) at
            ∙ ap (λ ps. run code (replicate n t) (record { lock = s'.lock; words = s'.words; parts = ps })) (set-set parts t mine now) ∙ more.2,
      )

  -- and as many attempts are dropped
  pub drops_beside : (n : ℕ) (parts : List (Part C)) (t : ℕ) (p : Part C) → slice_get parts t ≡ Some p → (s : Solo C) (base : List ℕ) (records : List Record)
      → s.drops + drops code t (replicate n t) (beside parts t s base records) ≡ (solo code n s).drops
  drops_beside zero parts t p here s base records = omega arith
  drops_beside (suc n) parts t p here s base records =
      let mine : Part C = record { thread = s.thread; base = base; records = records } in
      let at : slice_get (set parts t mine) t ≡ Some mine = get-set_same parts t mine p here in
      let s' : Solo C = solo_with code (code s.thread.configuration) s in
      let now : Part C = part_after s.words mine (step_with code s.thread (answer s.lock s.words (access code s.thread))) in
      let w : World C = beside parts t s base records in
      let one : ℕ = dropped_in code w (Some mine) in
      let first : drops code t (replicate (suc n) t) w ≡ one + drops code t (replicate n t) (step_of code w t (Some mine)) =
      ap (λ b. cond b (dropped_in code w (slice_get w.parts t)) 0 + drops code t (replicate n t) (step code w t)) (eq-eqb t t refl)
      ∙ ap (λ o. dropped_in code w o + drops code t (replicate n t) (step_of code w t o)) at in
      let same : drops code t (replicate n t) (step_of code w t (Some mine)) ≡ drops code t (replicate n t) (beside parts t s' now.base now.records) =
      ap (λ ps. drops code t (replicate n t) (record { lock = s'.lock; words = s'.words; parts = ps })) (set-set parts t mine now) in
      let more : s.drops + one + drops code t (replicate n t) (beside parts t s' now.base now.records) ≡ (solo code n s').drops = drops_beside n parts t p here s' now.base now.records in
      omega (arith, first, same, more)

  -- a world by one of its parts
  abbrev pub solo_of : World C → Part C → Solo C
  solo_of w p = record { lock = w.lock; words = w.words; thread = p.thread; drops = 0 }

  pub world_beside : (w : World C) (t : ℕ) (p : Part C) → slice_get w.parts t ≡ Some p → w ≡ beside w.parts t (solo_of w p) p.base p.records
  world_beside w t p here = ap (λ ps. record w { parts = ps }) (sym (ap (set w.parts t) (sym (get_or_from_slice_get w.parts t p p here)) ∙ set-get_or w.parts t p))

  -- what the part's thread comes to alone, and how often it is dropped
  pub record ComesBeside (w : World C) (t : ℕ) (n : ℕ) (end : Solo C) : Type 0 where
    pub base : List ℕ
    pub records : List Record
    pub world : run code (replicate n t) w ≡ beside w.parts t end base records
    pub dropped : drops code t (replicate n t) w ≡ end.drops

  pub comes_beside : (w : World C) (t : ℕ) (p : Part C) (n : ℕ) (end : Solo C) → slice_get w.parts t ≡ Some p → solo code n (solo_of w p) ≡ end → ComesBeside w t n end
  comes_beside w t p n end here came =
      let s = solo_of w p in
      let made = steps_beside n w.parts t p here s p.base p.records in
      let d = drops_beside n w.parts t p here s p.base p.records in
      let e : (solo code n s).drops ≡ end.drops = ap (λ (x : Solo C). x.drops) came in
      let count : drops code t (replicate n t) (beside w.parts t s p.base p.records) ≡ end.drops = omega (arith, d, e) in
      record {
        base = made.0;
        records = made.1;
        world = ap (run code (replicate n t)) (world_beside w t p here) ∙ made.2 ∙ ap (λ x. beside w.parts t x made.0 made.1) came;
        dropped = ap (drops code t (replicate n t)) (world_beside w t p here) ∙ count;
      }

  -- where the part rests in the world, its thread alone does
  pub rests_beside : (w : World C) (t : ℕ) (p : Part C) (n : ℕ) → slice_get w.parts t ≡ Some p → RestsIn code (run code (replicate n t) w) t → IsThreadAtRest code (solo code n (solo_of w p)).thread
  rests_beside w t p n here r =
      let c = comes_beside w t p n (solo code n (solo_of w p)) here refl in
      let r' : RestsIn code (beside w.parts t (solo code n (solo_of w p)) c.base c.records) t = subst (λ x. RestsIn code x t) c.world r in
      let mine : Part C = record { thread = (solo code n (solo_of w p)).thread; base = c.base; records = c.records } in
      subst (λ (x : Part C). IsThreadAtRest code x.thread) (some_same r'.part mine (sym r'.there ∙ get-set_same w.parts t mine p here)) r'.rests

  -- and the other way round
  pub rests_in_world : (w : World C) (t : ℕ) (p : Part C) (n : ℕ) (end : Solo C) → slice_get w.parts t ≡ Some p → solo code n (solo_of w p) ≡ end → IsThreadAtRest code end.thread → RestsIn code (run code (replicate n t) w) t
  rests_in_world w t p n end here came r =
      let c = comes_beside w t p n end here came in
      let mine : Part C = record { thread = end.thread; base = c.base; records = c.records } in
      subst (λ x. RestsIn code x t) (sym c.world) (record { part = mine; there = get-set_same w.parts t mine p here; rests = r })

  -- from where the thread has done what its meaning does
  pub goes_as : (bounds : List ℕ) (fits : FitsCells code bounds) (w : World C) (t : ℕ) (p : Part C) (r : Sequential C) → slice_get w.parts t ≡ Some p → Did code bounds fits w.lock w.words r (solo_of w p) → GoesAs code w t r
  goes_as bounds fits w t p r here d =
      let end : Solo C = out_solo d.lock (last_left w.words r.lefts) r.configuration r.text r.status in
      let c = comes_beside w t p d.reach.0 end here d.reach.1 in
      record {
        steps = d.reach.0;
        part = record { thread = end.thread; base = c.base; records = c.records };
        lock = d.lock;
        world = c.world;
        thread = refl;
        locked = d.moved;
        undropped = c.dropped;
      }

  pub runs_alone : (bounds : List ℕ) → FitsCells code bounds → RunsAlone code bounds
  runs_alone bounds fits w t p c text status n even sized here is over =
      goes_as bounds fits w t p (meaning_on code w.words c text status n) here
      (subst (λ th. Did code bounds fits w.lock w.words (meaning_on code w.words c text status n) (record { lock = w.lock; words = w.words; thread = th; drops = 0 })) (sym is)
      (goes_alone code bounds fits w.lock w.words even sized n c text status over))

-- steps from a reached world
module _ {C : Type 0} (code : C → Effect C) (init : ℕ → C) (bounds : List ℕ) (m0 : List ℕ) (is_memory : IsMemory bounds m0) (fits : FitsCells code bounds) where
  pub stays_reached : StaysReached code init m0
  stays_reached threads w ts r low =
      let from = reached_steps code init m0 threads w r in
      let v = run_invariant code bounds init m0 fits from.0 (new_world init m0 threads) (start_of m0) (new_invariant code init bounds m0 is_memory threads) in
      subst (λ x. (run code ts x).lock < 2 ^ 64 - 1 → Reached code init m0 threads x → Reached code init m0 threads (run code ts x)) (sym from.1)
      (reached_run code init bounds m0 is_memory fits threads ts (run code from.0 (new_world init m0 threads)) v.0 v.1) low r
