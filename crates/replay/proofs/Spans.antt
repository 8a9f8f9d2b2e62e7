-- Schedules of orders.
use Rattle.std.proofs.Common.{◌≡◌, ◌<◌, ◌≤◌, ◌+◌, ◌-◌, ◌⊎◌, inl, inr, ℕ, zero, suc, List, [], ◌∷◌, ◌++◌, Option, None, Some, refl, sym, ◌∙◌, ap, subst, map, length, drop, replicate, slice_get, append_assoc, append-nil, arith}
use Rattle.std.specs.Prelude.{option_map}
use Rattle.syntax.specs.declared.thread_end.Status.{Status}
use Rattle.syntax.specs.declared.thread_end.Status.TheVariants.{Running}
use Rattle.bytecode.specs.Code.{Code, Configuration, effect}
use Rattle.machine.specs.Turns.{AreBegun, AreTurns, IsTurnOf, RestsAfter, RestsIn, RunsIn, Span, steps_in}
use Rattle.machine.specs.Worlds.{Part, World, run, step}
use Rattle.world.specs.Resting.{GoesOnAlone, RestsAt}
use Rattle.world.specs.Simulations.{Simulation, further, status_at, world_of}
use Rattle.world.proofs.Resting.{further_world}
use Rattle.world.proofs.Stepping.{further_more}
use Rattle.replay.specs.declared.line.Line.{Line}
use Rattle.replay.specs.Replays.{steps_of}
use Rattle.replay.specs.Schedules.{counts}
use Rattle.replay.specs.Turns.{AreLinesOfOrder, line_of}
use Rattle.replay.proofs.Playing.{at_zero, done_line, no_lines, not_zero, one_more}

-- the lines of spans name their steps
module _ (code : Code) where
  one_span : (spans : List Span) → ((n : ℕ) (w : World Configuration) → counts (map line_of spans) ≤ n → steps_of code n (map line_of spans) w ≡ steps_in spans)
      → (m t n : ℕ) (w : World Configuration) → m + counts (map line_of spans) ≤ n → steps_of code n (line_of (t, m) ∷ map line_of spans) w ≡ replicate m t ++ steps_in spans
  one_span spans on zero t n w few = done_line code n (line_of (t, 0)) (map line_of spans) w (at_zero w (line_of (t, 0)) refl) ∙ on n w (omega (arith, few))
  one_span spans on (suc m) t zero w few = absurd (omega (arith, few))
  one_span spans on (suc m) t (suc n) w few =
      let less : suc m - 1 ≡ m = omega arith in
      one_more code n (line_of (t, suc m)) (map line_of spans) w (not_zero w (line_of (t, suc m)) (omega arith) refl)
      ∙ ap (λ ts. t ∷ ts) (ap (λ k. steps_of code n (line_of (t, k) ∷ map line_of spans) (step (effect code) w t)) less ∙ one_span spans on m t n (step (effect code) w t) (omega (arith, few)))

  pub named_by_spans : (spans : List Span) (n : ℕ) (w : World Configuration) → counts (map line_of spans) ≤ n → steps_of code n (map line_of spans) w ≡ steps_in spans
  named_by_spans [] n w few = no_lines code n w
  named_by_spans (s ∷ spans) n w few = one_span spans (named_by_spans spans) s.1 s.0 n w few

map_last : (spans : List Span) (s : Span) → map line_of (spans ++ s ∷ []) ≡ map line_of spans ++ line_of s ∷ []
map_last [] s = refl
map_last (x ∷ spans) s = ap (λ ls. line_of x ∷ ls) (map_last spans s)

pub found_more : (spans : List Span) (s : Span) (found after : List Line) → found ≡ map line_of spans → after ≡ found ++ line_of s ∷ [] → after ≡ map line_of (spans ++ s ∷ [])
found_more spans s found after is more = more ∙ ap (λ ls. ls ++ line_of s ∷ []) is ∙ sym (map_last spans s)

steps_last : (spans : List Span) (s : Span) → steps_in (spans ++ s ∷ []) ≡ steps_in spans ++ replicate s.1 s.0
steps_last [] s = append-nil (replicate s.1 s.0)
steps_last (x ∷ spans) s = ap (λ ts. replicate x.1 x.0 ++ ts) (steps_last spans s) ∙ sym (append_assoc (replicate x.1 x.0) (steps_in spans) (replicate s.1 s.0))

pub world_more : (old now after : Simulation) (spans : List Span) (t n : ℕ) → now ≡ further old (steps_in spans) → after ≡ further now (replicate n t) → after ≡ further old (steps_in (spans ++ (t, n) ∷ []))
world_more old now after spans t n is more = more ∙ ap (λ s. further s (replicate n t)) is ∙ further_more old (steps_in spans) (replicate n t) ∙ ap (further old) (sym (steps_last spans (t, n)))

pub counts_more : (found after : List Line) (s : Span) → after ≡ found ++ line_of s ∷ [] → counts after ≡ counts found + s.1
counts_more found after s is = ap counts is ∙ last found
  where
    last : (ls : List Line) → counts (ls ++ line_of s ∷ []) ≡ counts ls + s.1
    last [] = omega arith
    last (l ∷ ls) = let e = last ls in omega (arith, e)

-- a thread that comes to rest, and one that takes its turn
pub rested : (old now : Simulation) (t n : ℕ) → now ≡ further old (replicate n t) → GoesOnAlone old t n → RestsAt now t → RestsAfter (effect old.code) (world_of old) t n
rested old now t n is first rests = record {
  first = first;
  rests = subst (λ w. RestsIn (effect old.code) w t) (further_world old (replicate n t)) (subst (λ s. RestsAt s t) is rests);
}

running_in : (code : Code) (w : World Configuration) (t : ℕ) (o : Option (Part Configuration)) → slice_get w.parts t ≡ o → option_map (λ (p : Part Configuration). p.thread.status) o ≡ Some Running → RunsIn (effect code) w t
running_in code w t None e is = absurd (cc)
running_in code w t (Some p) e is = record { part = p; there = e; running = (let f : p.thread.status ≡ Running = cc in f) }

pub runs_at : (s : Simulation) (t : ℕ) (status : Status) → status_at s t ≡ Some status → status ≡ Running → RunsIn (effect s.code) (world_of s) t
runs_at s t status is running = running_in s.code (world_of s) t (slice_get (world_of s).parts t) refl (is ∙ ap Some running)

pub turned : (old now : Simulation) (t n : ℕ) → now ≡ further old (t ∷ []) → RunsIn (effect old.code) (world_of old) t → RestsAfter (effect now.code) (world_of now) t n → IsTurnOf (effect old.code) (world_of old) t (n + 1)
turned old now t n is runs rests =
    let e : suc n ≡ n + 1 = omega arith in
    let same : now.code ≡ old.code = ap (λ (s : Simulation). s.code) is in
    let next : world_of now ≡ step (effect old.code) (world_of old) t = ap world_of is ∙ further_world old (t ∷ []) in
    subst (IsTurnOf (effect old.code) (world_of old) t) e (runs, subst (λ w. RestsAfter (effect old.code) w t n) next (subst (λ c. RestsAfter (effect c) (world_of now) t n) same rests))

-- the lines so far, and any that are made from here on
pub record Begins (old now : Simulation) (t count : ℕ) (found : List Line) : Type 0 where
  pub spans : List Span
  pub found_is : found ≡ map line_of spans
  pub goes : (rest : List Span) → AreBegun (effect old.code) (world_of now) t (count - t) rest → AreBegun (effect old.code) (world_of old) 0 count (spans ++ rest)
  pub world : now ≡ further old (steps_in spans)

pub begins_first : (old : Simulation) (count : ℕ) (found : List Line) → found ≡ [] → Begins old old 0 count found
begins_first old count found none = record {
  spans = [];
  found_is = none;
  goes = λ rest begun. let e : count - 0 ≡ count = omega arith in subst (λ k. AreBegun (effect old.code) (world_of old) 0 k rest) e begun;
  world = λ i. record old { trace = sym (append-nil old.trace) i };
}

pub begins_more : (old now after : Simulation) (t n count : ℕ) (found more : List Line) → Begins old now t count found → t < count → RestsAfter (effect now.code) (world_of now) t n → after ≡ further now (replicate n t) → more ≡ found ++ line_of (t, n) ∷ [] → Begins old after (t + 1) count more
begins_more old now after t n count found more b lt rests is added = record {
  spans = b.spans ++ (t, n) ∷ [];
  found_is = found_more b.spans (t, n) found more b.found_is added;
  goes = λ rest begun.
      let same : now.code ≡ old.code = ap (λ (v : Simulation). v.code) b.world in
      let next : world_of after ≡ run (effect old.code) (replicate n t) (world_of now) = ap world_of is ∙ further_world now (replicate n t) ∙ ap (λ c. run (effect c) (replicate n t) (world_of now)) same in
      let left : count - t ≡ suc (count - (t + 1)) = omega (arith, lt) in
      let up : t + 1 ≡ suc t = omega arith in
      let later : AreBegun (effect old.code) (run (effect old.code) (replicate n t) (world_of now)) (suc t) (count - (t + 1)) rest = subst (λ w. AreBegun (effect old.code) w (suc t) (count - (t + 1)) rest) next (subst (λ k. AreBegun (effect old.code) (world_of after) k (count - (t + 1)) rest) up begun) in
      let here : AreBegun (effect old.code) (world_of now) t (suc (count - (t + 1))) ((t, n) ∷ rest) = (n, rest, refl, subst (λ c. RestsAfter (effect c) (world_of now) t n) same rests, later) in
      subst (AreBegun (effect old.code) (world_of old) 0 count) (sym (append_assoc b.spans ((t, n) ∷ []) rest)) (b.goes ((t, n) ∷ rest) (subst (λ k. AreBegun (effect old.code) (world_of now) t k ((t, n) ∷ rest)) (sym left) here));
  world = world_more old now after b.spans t n b.world is;
}

pub begins_all : (old now : Simulation) (count : ℕ) (found : List Line) → Begins old now count count found → (spans : List Span) × (found ≡ map line_of spans) × AreBegun (effect old.code) (world_of old) 0 count spans × (now ≡ further old (steps_in spans))
begins_all old now count found b = (
  b.spans,
  b.found_is,
  subst (AreBegun (effect old.code) (world_of old) 0 count) (append-nil b.spans) (b.goes [] (let e : count - count ≡ 0 = omega arith in subst (λ k. AreBegun (effect old.code) (world_of now) count k []) (sym e) refl)),
  b.world,
)

-- turns of an order
pub record Takes (old now : Simulation) (order : List ℕ) (at : ℕ) (was found : List Line) : Type 0 where
  pub spans : List Span
  pub found_is : found ≡ was ++ map line_of spans
  pub goes : (rest : List Span) → AreTurns (effect old.code) (world_of now) (drop at order) rest → AreTurns (effect old.code) (world_of old) order (spans ++ rest)
  pub code : now.code ≡ old.code

pub takes_first : (old : Simulation) (order : List ℕ) (was : List Line) → Takes old old order 0 was was
takes_first old order was = record { spans = []; found_is = sym (append-nil was); goes = λ rest turns. turns; code = refl }

drop_at : (order : List ℕ) (at t : ℕ) → slice_get order at ≡ Some t → drop at order ≡ t ∷ drop (at + 1) order
drop_at [] at t e = absurd (cc)
drop_at (x ∷ order) zero t e = ap (λ y. y ∷ order) (let f : x ≡ t = cc in f)
drop_at (x ∷ order) (suc at) t e = drop_at order at t e ∙ ap (λ k. t ∷ drop k (x ∷ order)) (let f : suc (at + 1) ≡ suc at + 1 = omega arith in f)

pub takes_more : (old now after : Simulation) (order : List ℕ) (at t n : ℕ) (was found more : List Line) → Takes old now order at was found → slice_get order at ≡ Some t → IsTurnOf (effect now.code) (world_of now) t n → after ≡ further now (replicate n t) → more ≡ found ++ line_of (t, n) ∷ [] → Takes old after order (at + 1) was more
takes_more old now after order at t n was found more k here turn is added = record {
  spans = k.spans ++ (t, n) ∷ [];
  found_is = added ∙ ap (λ ls. ls ++ line_of (t, n) ∷ []) k.found_is ∙ append_assoc was (map line_of k.spans) (line_of (t, n) ∷ []) ∙ ap (λ ls. was ++ ls) (sym (map_last k.spans (t, n)));
  goes = λ rest turns.
      let next : world_of after ≡ run (effect old.code) (replicate n t) (world_of now) = ap world_of is ∙ further_world now (replicate n t) ∙ ap (λ c. run (effect c) (replicate n t) (world_of now)) k.code in
      let first : AreTurns (effect old.code) (world_of now) (t ∷ drop (at + 1) order) ((t, n) ∷ rest) = (n, rest, refl, subst (λ c. IsTurnOf (effect c) (world_of now) t n) k.code turn, subst (λ w. AreTurns (effect old.code) w (drop (at + 1) order) rest) next turns) in
      subst (AreTurns (effect old.code) (world_of old) order) (sym (append_assoc k.spans ((t, n) ∷ []) rest)) (k.goes ((t, n) ∷ rest) (subst (λ o. AreTurns (effect old.code) (world_of now) o ((t, n) ∷ rest)) (sym (drop_at order at t here)) first));
  code = ap (λ (v : Simulation). v.code) is ∙ k.code;
}

pub takes_all : (old now : Simulation) (order : List ℕ) (at : ℕ) (was found : List Line) → Takes old now order at was found → length order ≤ at → (spans : List Span) × (found ≡ was ++ map line_of spans) × AreTurns (effect old.code) (world_of old) order spans
takes_all old now order at was found k over = (
  k.spans,
  k.found_is,
  subst (AreTurns (effect old.code) (world_of old) order) (append-nil k.spans) (k.goes [] (subst (λ o. AreTurns (effect old.code) (world_of now) o []) (sym (drop_all order at over)) refl)),
)
  where
    drop_all : (xs : List ℕ) (n : ℕ) → length xs ≤ n → drop n xs ≡ []
    drop_all [] zero le = refl
    drop_all [] (suc n) le = refl
    drop_all (x ∷ xs) zero le = absurd (omega (arith, le))
    drop_all (x ∷ xs) (suc n) le = drop_all xs n (omega (arith, le))

pub named_more : (order : List ℕ) (at u threads : ℕ) → slice_get order at ≡ Some u → u < threads → ((i t : ℕ) → i < at → slice_get order i ≡ Some t → t < threads) → (i t : ℕ) → i < at + 1 → slice_get order i ≡ Some t → t < threads
named_more order at u threads here lt before i t le e = by either
  where
    either : (i < at) ⊎ (i ≡ at)
    either = grind arith

    by : (i < at) ⊎ (i ≡ at) → t < threads
    by (inl less) = before i t less e
    by (inr is) = let f : Some u ≡ Some t = sym here ∙ ap (slice_get order) (sym is) ∙ e in let g : u ≡ t = cc in subst (λ x. x < threads) g lt

map_spans : (xs ys : List Span) → map line_of (xs ++ ys) ≡ map line_of xs ++ map line_of ys
map_spans [] ys = refl
map_spans (x ∷ xs) ys = ap (λ ls. line_of x ∷ ls) (map_spans xs ys)

-- the lines of an order
pub lines_of_order : (code : Code) (threads : ℕ) (order : List ℕ) (old now : Simulation) (found last : List Line) → old ≡ record { code = code; threads = threads; trace = [] }
    → (spans : List Span) × (found ≡ map line_of spans) × AreBegun (effect old.code) (world_of old) 0 old.threads spans × (now ≡ further old (steps_in spans))
    → (spans : List Span) × (last ≡ found ++ map line_of spans) × AreTurns (effect now.code) (world_of now) order spans → AreLinesOfOrder code threads order last
lines_of_order code threads order old now found last is begun taken =
    let first : Simulation = record { code = code; threads = threads; trace = [] } in
    let after : now ≡ further first (steps_in begun.0) = begun.3 ∙ ap (λ s. further s (steps_in begun.0)) is in
    record {
      spans = begun.0 ++ taken.0;
      turns = record {
        begun = begun.0;
        turns = taken.0;
        begins = subst (λ (s : Simulation). AreBegun (effect s.code) (world_of s) 0 s.threads begun.0) is begun.2;
        takes = subst (λ w. AreTurns (effect code) w order taken.0) (further_world first (steps_in begun.0)) (subst (λ (s : Simulation). AreTurns (effect s.code) (world_of s) order taken.0) after taken.2);
        are = refl;
      };
      found_is = taken.1 ∙ ap (λ ls. ls ++ map line_of taken.0) begun.1 ∙ sym (map_spans begun.0 taken.0);
    }
