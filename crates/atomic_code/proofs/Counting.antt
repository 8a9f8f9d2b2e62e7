-- Many instructions, for every code.
use Rattle.std.proofs.Common.{◌≡◌, ◌+◌, ◌-◌, ◌≤◌, ℕ, zero, suc, Bool, true, false, List, [], ◌∷◌, ◌++◌, Option, None, Some, refl, ◌∙◌, ap, drop, arith}
use Rattle.syntax.specs.declared.thread_end.Status.{Status}
use Rattle.syntax.specs.declared.thread_end.Status.TheVariants.{Running, Ended as HasEnded, Trapped as HasTrapped}
use Rattle.bytecode.specs.Effects.{Effect}
use Rattle.bytecode.specs.Effects.Effect.{Print, Begin, Commit, Cancel, CancelOuter, Traps}
use Rattle.bytecode.specs.Sequential.{Sequential, OpenTransaction, InnerTransaction, next, steps, sequential_step, found_next, commit_step, cancel_step, print_step}
use Rattle.atomic_code.specs.Carried.{IsGoing}

module _ {C : Type 0} (code : C → Effect C) where
  pub steps_add : (n m : ℕ) (s t : Sequential C) → steps code n s ≡ t → steps code (n + m) s ≡ steps code m t
  steps_add zero m s t e = simp (let z : zero + m ≡ m = omega arith in z) (ap (steps code m) e)
  steps_add (suc n) m s t e = let h : suc n + m ≡ suc (n + m) = omega arith in ap (λ k. steps code k s) h ∙ steps_add n m (next code s) t e

  pub steps_one : (n : ℕ) (s t : Sequential C) → steps code n s ≡ t → steps code (n + 1) s ≡ next code t
  steps_one n s t e = steps_add n 1 s t e

  -- lists that grow are not empty
  more_left : (ls : List (List ℕ)) (m : List ℕ) → ls ++ m ∷ [] ≡ [] → ls ≡ []
  more_left [] m e = absurd (cc)
  more_left (l ∷ ls) m e = absurd (cc)

  -- a thread that goes on after an instruction went on before it
  module _ (s : Sequential C) where
    cancel_before : (i : OpenTransaction C) (is : List (InnerTransaction C)) (b : Bool) → (cancel_step s i is b).lefts ≡ [] → s.lefts ≡ []
    cancel_before i [] true e = e
    cancel_before i [] false e = more_left s.lefts i.found e
    cancel_before i (l ∷ ls) b e = e

    lefts_before : (w : Bool) (st : Status) (o : Option (OpenTransaction C)) (x : Effect C) → (sequential_step s w st o x).lefts ≡ [] → s.lefts ≡ []
    lefts_before false Running None (Begin c d) e = by s.founds e
      where
        by : (ms : List (List ℕ)) → (found_next s c d ms).lefts ≡ [] → s.lefts ≡ []
        by [] e = e
        by (m ∷ ms) e = e
    lefts_before false Running (Some i) (Print piece c) e = by i.kept e
      where
        by : (b : Bool) → (print_step s piece c b).lefts ≡ [] → s.lefts ≡ []
        by true e = e
        by false e = e
    lefts_before false Running (Some i) (Commit c) e = by i.inner e
      where
        by : (is : List (InnerTransaction C)) → (commit_step s i c is).lefts ≡ [] → s.lefts ≡ []
        by [] e = more_left s.lefts i.mem e
        by (l ∷ ls) e = e
    lefts_before false Running (Some i) Cancel e = cancel_before i i.inner i.kept e
    lefts_before false Running (Some i) (CancelOuter n) e = cancel_before i (drop (n - 1) i.inner) i.kept e
    lefts_before false Running (Some i) (Traps cause) e = more_left s.lefts i.found e
    lefts_before w st o x e = e

    wanted : (w : Bool) → s.wants ≡ w → (sequential_step s w s.status s.inside (code s.configuration)).wants ≡ false → s.wants ≡ false
    wanted true e h = h
    wanted false e h = e

    ran : (st : Status) (w : Bool) → s.status ≡ st → (sequential_step s w st s.inside (code s.configuration)).status ≡ Running → s.status ≡ Running
    ran Running w e h = e
    ran HasEnded true e h = h
    ran HasEnded false e h = h
    ran (HasTrapped cause) true e h = h
    ran (HasTrapped cause) false e h = h

  pub went : (s : Sequential C) → IsGoing (next code s) → IsGoing s
  went s g = record {
    running = ran s s.status s.wants refl g.running;
    nothing_left = lefts_before s s.wants s.status s.inside (code s.configuration) g.nothing_left;
    wants_none = wanted s s.wants refl g.wants_none;
  }

  -- and so before all of them
  pub went_all : (n : ℕ) (s : Sequential C) → IsGoing (steps code n s) → IsGoing s
  went_all zero s g = g
  went_all (suc n) s g = went s (went_all n (next code s) g)

  pub went_before : (n m : ℕ) (s : Sequential C) → m ≤ n → IsGoing (steps code n s) → IsGoing (steps code m s)
  went_before n zero s h g = went_all n s g
  went_before zero (suc m) s h g = absurd (omega arith)
  went_before (suc n) (suc m) s h g = went_before n m (next code s) (omega arith) g
