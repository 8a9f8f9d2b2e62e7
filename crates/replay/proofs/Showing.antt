-- What is shown of steps, one more at the end.
use Rattle.std.proofs.Common.{◌≡◌, ◌+◌, ◌<◌, ℕ, List, [], ◌∷◌, ◌++◌, Option, Some, length, take, get_or, sym, ◌∙◌, ap, slice_get, arith, append_assoc, append-nil}
use Rattle.std.proofs.lemmas.List.{take_more}
use Rattle.bytecode.specs.Code.{Code, Configuration, effect}
use Rattle.machine.specs.declared.event.StepShown.{StepShown}
use Rattle.machine.specs.Worlds.{World, run, step}
use Rattle.world.specs.Simulations.{Simulation, accesses_in, accesses_of, cost_next, further, shown_at, shown_next}
use Rattle.world.specs.inner.Costs.{cost_at}
use Rattle.world.proofs.Stepping.{next_accesses}
use Rattle.replay.specs.Replays.{first_world, simulation_after, shown_in, step_shown, timeline_of}

module _ (code : Code) where
  shown_more : (ts : List ℕ) (t : ℕ) (w : World Configuration) (n : ℕ) → shown_in code (ts ++ t ∷ []) w n
      ≡ shown_in code ts w n ++ step_shown (n + accesses_in code ts w + cost_next code (slice_get (run (effect code) ts w).parts t)) t (shown_next code (run (effect code) ts w) (slice_get (run (effect code) ts w).parts t))
  shown_more [] t w n = append-nil _ ∙ ap (λ (m : ℕ). step_shown (m + cost_next code (slice_get w.parts t)) t (shown_next code w (slice_get w.parts t))) (let e : n ≡ n + 0 = omega arith in e)
  shown_more (u ∷ ts) t w n =
      let m : ℕ = n + cost_next code (slice_get w.parts u) in
      let k : m + accesses_in code ts (step (effect code) w u) ≡ n + (cost_next code (slice_get w.parts u) + accesses_in code ts (step (effect code) w u)) = omega arith in
      let first : List (ℕ × ℕ × StepShown) = step_shown m u (shown_next code w (slice_get w.parts u)) in
      ap (λ (l : List (ℕ × ℕ × StepShown)). first ++ l) (shown_more ts t (step (effect code) w u) m)
      ∙ sym (append_assoc first _ _)
      ∙ ap (λ (j : ℕ). (first ++ shown_in code ts (step (effect code) w u) m) ++ step_shown (j + cost_next code (slice_get (run (effect code) (u ∷ ts) w).parts t)) t (shown_next code (run (effect code) (u ∷ ts) w) (slice_get (run (effect code) (u ∷ ts) w).parts t))) k

-- the timeline with one step more
pub next_shown : (s z : Simulation) (t n : ℕ) (x : StepShown) → z ≡ further s (t ∷ []) → shown_at s t ≡ Some x → n ≡ accesses_of z → timeline_of s ++ (n, t, x) ∷ [] ≡ timeline_of z
next_shown s z t n x is at count =
    sym (ap timeline_of is ∙ shown_more s.code s.trace t (first_world s.code s.threads) 0
    ∙ ap (λ (m : ℕ). timeline_of s ++ step_shown m t (shown_at s t)) (let f = next_accesses s t in let g : 0 + accesses_of s + cost_at s t ≡ accesses_of s + cost_at s t = omega arith in g ∙ sym f ∙ ap accesses_of (sym is) ∙ sym count)
    ∙ ap (λ (o : Option StepShown). timeline_of s ++ step_shown n t o) at)

-- the steps made with one more
pub next_made : (code : Code) (threads : ℕ) (ts : List ℕ) (i : ℕ) (t : ℕ) (s z : Simulation) → s ≡ simulation_after code threads (take i ts) → z ≡ further s (t ∷ []) → t ≡ get_or ts i 0 → i < length ts → z ≡ simulation_after code threads (take (i + 1) ts)
next_made code threads ts i t s z was is here less =
    is ∙ ap (λ (v : Simulation). further v (t ∷ [])) was
    ∙ ap (λ (us : List ℕ). simulation_after code threads us) (ap (λ (u : ℕ). take i ts ++ u ∷ []) here ∙ sym (take_more ts i 0 less))
