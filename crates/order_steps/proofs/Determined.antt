-- The turns of an order are determined.
use Rattle.std.proofs.Common.{◌≡◌, ◌<◌, ◌⊎◌, inl, inr, ℕ, zero, suc, List, [], ◌∷◌, ◌++◌, refl, sym, ◌∙◌, ap, ap₂, subst, replicate, arith}
use Rattle.bytecode.specs.Effects.{Effect}
use Rattle.machine.specs.Turns.{AreBegun, AreTurns, IsTurnOf, RestsAfter, Span, steps_in}
use Rattle.machine.specs.Worlds.{World, new_world, run, step}
use Rattle.order_steps.specs.Stepped.{TurnsAreDetermined}

module _ {C : Type 0} (code : C → Effect C) where
  which : (m n : ℕ) → (m < n) ⊎ (n < m) ⊎ (m ≡ n)
  which m n = grind arith

  -- a thread rests for the first time once
  first_is_one : (w : World C) (t m n : ℕ) → RestsAfter code w t m → RestsAfter code w t n → m ≡ n
  first_is_one w t m n a b = by (which m n)
    where
      by : (m < n) ⊎ (n < m) ⊎ (m ≡ n) → m ≡ n
      by (inl lt) = absurd (b.first m lt a.rests)
      by (inr (inl lt)) = absurd (a.first n lt b.rests)
      by (inr (inr e)) = e

  turn_is_one : (w : World C) (t m n : ℕ) → IsTurnOf code w t m → IsTurnOf code w t n → m ≡ n
  turn_is_one w t zero zero a b = refl
  turn_is_one w t zero (suc n) a b = absurd (a b.0)
  turn_is_one w t (suc m) zero a b = absurd (b a.0)
  turn_is_one w t (suc m) (suc n) a b = ap suc (first_is_one (step code w t) t m n a.1 b.1)

  begun_are_one : (count : ℕ) (w : World C) (t : ℕ) (xs ys : List Span) → AreBegun code w t count xs → AreBegun code w t count ys → xs ≡ ys
  begun_are_one zero w t xs ys a b = a ∙ sym b
  begun_are_one (suc count) w t xs ys (m, us, xs_are, first, more) (n, vs, ys_are, other, later) =
      let e : m ≡ n = first_is_one w t m n first other in
      let rest : us ≡ vs = begun_are_one count (run code (replicate n t) w) (suc t) us vs (subst (λ k. AreBegun code (run code (replicate k t) w) (suc t) count us) e more) later in
      xs_are ∙ ap₂ (λ k zs. (t, k) ∷ zs) e rest ∙ sym ys_are

  turns_are_one : (order : List ℕ) (w : World C) (xs ys : List Span) → AreTurns code w order xs → AreTurns code w order ys → xs ≡ ys
  turns_are_one [] w xs ys a b = a ∙ sym b
  turns_are_one (t ∷ order) w xs ys (m, us, xs_are, turn, more) (n, vs, ys_are, other, later) =
      let e : m ≡ n = turn_is_one w t m n turn other in
      let rest : us ≡ vs = turns_are_one order (run code (replicate n t) w) us vs (subst (λ k. AreTurns code (run code (replicate k t) w) order us) e more) later in
      xs_are ∙ ap₂ (λ k zs. (t, k) ∷ zs) e rest ∙ sym ys_are

  pub turns_are_determined : (init : ℕ → C) → TurnsAreDetermined code init
  turns_are_determined init m0 threads order xs ys a b =
      let w : World C = new_world init m0 threads in
      let e : a.begun ≡ b.begun = begun_are_one threads w 0 a.begun b.begun a.begins b.begins in
      let f : a.turns ≡ b.turns = turns_are_one order (run code (steps_in b.begun) w) a.turns b.turns (subst (λ zs. AreTurns code (run code (steps_in zs) w) order a.turns) e a.takes) b.takes in
      a.are ∙ ap₂ (λ us vs. us ++ vs) e f ∙ sym b.are
