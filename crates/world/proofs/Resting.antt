-- Threads of a world that rest, and steps of one of them alone.
use Rattle.std.proofs.Common.{◌≡◌, ◌<◌, ◌+◌, ◌⊎◌, inl, inr, ◌∙◌, ℕ, zero, suc, List, [], ◌∷◌, ◌++◌, Some, refl, sym, ap, subst, length, replicate, slice_get, arith}
use Rattle.bytecode.specs.Beginning.{beginning}
use Rattle.bytecode.specs.Code.{Configuration, effect}
use Rattle.bytecode.specs.Initial.{initial_of}
use Rattle.machine.specs.Resting.{IsThreadAtRest}
use Rattle.machine.specs.States.{ThreadState}
use Rattle.machine.specs.Turns as turns
use Rattle.machine.specs.Worlds.{Part, new_world, run}
use Rattle.world.specs.Resting.{GoesOnAlone, RestsAt}
use Rattle.world.specs.Simulations.{Simulation, further, world_of}
use Rattle.world.specs.inner.Following.{IsOfPart, IsWorldOf}
use Rattle.world.proofs.Stepping.{further_more, part_here, run_more}

pub further_world : (s : Simulation) (ts : List ℕ) → world_of (further s ts) ≡ run (effect s.code) ts (world_of s)
further_world s ts = run_more s.code s.trace ts (new_world (beginning s.code) (initial_of s.code) s.threads)

-- a thread rests where its part does
module _ (s : Simulation) (lock : ℕ) (words : List ℕ) (threads : List ThreadState) (accesses : ℕ) (k : IsWorldOf s lock words threads accesses) (t : ℕ) (x : ThreadState) (here : slice_get threads t ≡ Some x) where
  part : (p : Part Configuration) × (slice_get (world_of s).parts t ≡ Some p) × IsOfPart s.code (length s.trace) x p
  part = part_here s.code (length s.trace) threads (world_of s).parts t x k.threads_are here

  pub rests_in : IsThreadAtRest (effect s.code) x.thread → RestsAt s t
  rests_in r = record { part = part.0; there = part.1; rests = subst (IsThreadAtRest (effect s.code)) part.2.thread r }

  pub rests_of : RestsAt s t → IsThreadAtRest (effect s.code) x.thread
  rests_of r =
      let same : Some r.part ≡ Some part.0 = sym r.there ∙ part.1 in
      let is : r.part ≡ part.0 = cc in
      subst (IsThreadAtRest (effect s.code)) (ap (λ (p : Part Configuration). p.thread) is ∙ sym part.2.thread) r.rests

-- one more step of the same thread
replicate_last : (n t : ℕ) → replicate n t ++ t ∷ [] ≡ replicate (suc n) t
replicate_last zero t = refl
replicate_last (suc n) t = ap (λ ts. t ∷ ts) (replicate_last n t)

pub made_more : (s now after : Simulation) (t n : ℕ) → now ≡ further s (replicate n t) → after ≡ further now (t ∷ []) → after ≡ further s (replicate (n + 1) t)
made_more s now after t n is one =
    one ∙ ap (λ v. further v (t ∷ [])) is ∙ further_more s (replicate n t) (t ∷ []) ∙ ap (further s) (replicate_last n t) ∙ ap (λ k. further s (replicate k t)) (let e : suc n ≡ n + 1 = omega arith in e)

pub goes_first : (s : Simulation) (t : ℕ) → GoesOnAlone s t 0
goes_first s t m lt r = absurd (omega (arith, lt))

pub goes_more : (s now : Simulation) (t n : ℕ) → now ≡ further s (replicate n t) → GoesOnAlone s t n → (RestsAt now t → ⊥) → GoesOnAlone s t (n + 1)
goes_more s now t n is before goes m lt r = by (either)
  where
    either : (m < n) ⊎ (m ≡ n)
    either = grind arith

    by : (m < n) ⊎ (m ≡ n) → ⊥
    by (inl less) = before m less r
    by (inr e) =
        let there : turns.RestsIn (effect s.code) (run (effect s.code) (replicate n t) (world_of s)) t = subst (λ k. turns.RestsIn (effect s.code) (run (effect s.code) (replicate k t) (world_of s)) t) e r in
        goes (subst (λ v. RestsAt v t) (sym is) (subst (λ x. turns.RestsIn (effect s.code) x t) (sym (further_world s (replicate n t))) there))
