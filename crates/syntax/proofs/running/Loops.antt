-- A loop is its turn, and then the loop again.
use Rattle.std.proofs.Common.{◌≡◌, refl, ℕ, zero, suc, ◌≤◌, List, Some, None, arith}
use Rattle.std.specs.Prelude.{Option}
use Rattle.syntax.specs.Names.{Local}
use Rattle.syntax.specs.Actions.{Context, State, Answer, Gives, Stops, state_of, Action, go_on, tick, ◌>>◌, ◌>>=◌}
use Rattle.syntax.specs.Meaning.{Completion, turns, loop, after_turn}
use Rattle.syntax.specs.Laws.{LoopIsItsTurns}

abbrev state : ℕ → List Local → Context → List ℕ → State
state n ls c t = record { ticks = n; locals = ls; context = c; text = t }

module _ (turn : Action (Option Completion)) (falls : (s : State) → (state_of (turn s)).ticks ≤ s.ticks) where
  going : (n m k : ℕ) (r : Answer (Option Completion)) → (state_of r).ticks ≤ k → k ≤ n → k ≤ m → ((s : State) → s.ticks ≤ n → s.ticks ≤ m → turns n turn s ≡ turns m turn s) → go_on r (after_turn (turns n turn)) ≡ go_on r (after_turn (turns m turn))
  going n m k (Gives None s) f a b h = h s (omega (arith, f, a)) (omega (arith, f, b))
  going n m k (Gives (Some end) s) f a b h = refl
  going n m k (Stops why s) f a b h = refl

  -- with any number of turns that is at least the ticks
  enough : (n m k : ℕ) (ls : List Local) (c : Context) (t : List ℕ) → k ≤ n → k ≤ m → turns n turn (state k ls c t) ≡ turns m turn (state k ls c t)
  enough zero zero zero ls c t a b = refl
  enough (suc n) (suc m) (suc k) ls c t a b =
      going n m k (turn (state k ls c t)) (falls (state k ls c t)) (omega (arith, a)) (omega (arith, b))
      (λ s d e. enough n m s.ticks s.locals s.context s.text d e)
  enough zero m (suc k) ls c t a b = absurd (omega (arith, a))
  enough (suc n) zero (suc k) ls c t a b = absurd (omega (arith, b))
  enough n m k ls c t a b = refl

  after_same : (n k : ℕ) (r : Answer (Option Completion)) → (state_of r).ticks ≤ k → k ≤ n → go_on r (after_turn (turns n turn)) ≡ go_on r (after_turn (loop turn))
  after_same n k (Gives None s) f a = enough n s.ticks s.ticks s.locals s.context s.text (omega (arith, f, a)) (omega arith)
  after_same n k (Gives (Some end) s) f a = refl
  after_same n k (Stops why s) f a = refl

  loop_at : (k : ℕ) (ls : List Local) (c : Context) (t : List ℕ) → loop turn (state k ls c t) ≡ (tick >> (turn >>= after_turn (loop turn))) (state k ls c t)
  loop_at zero ls c t = refl
  loop_at (suc k) ls c t = after_same k k (turn (state k ls c t)) (falls (state k ls c t)) (omega arith)

pub loop_is_its_turns : LoopIsItsTurns
loop_is_its_turns turn falls s = loop_at turn falls s.ticks s.locals s.context s.text
