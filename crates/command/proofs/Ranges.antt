-- Numbers of threads that are given: one, or several in turn.
use Rattle.std.proofs.Common.{inl, inr, ℕ, List, Option, Some, None}
use Rattle.std.specs.Prelude.{IsSomeAnd, codes}
use Rattle.clap.specs.Words.{Row, Text, one_of}
use Rattle.command.specs.Asked.{AreThreadsExplored, AreThreadsInTurn, IsNoNumber, IsNumberRead, IsSaidOr}
use Rattle.command.specs.inner.Refusals.{IsOutOfRange}

-- a number that was read is one
read_or_not : (o : Option Text) (n : Option ℕ) → IsNumberRead o n → IsSomeAnd o IsNoNumber → ⊥
read_or_not None n read not = absurd not
read_or_not (Some t) None read not = absurd read
read_or_not (Some t) (Some n) read not = not n read

unsaid : (o : Option Text) (n : ℕ) → IsSomeAnd o IsNoNumber → IsSaidOr 2 o n → ⊥
unsaid None n not said = absurd not
unsaid (Some t) n not said = not n said

module _ (given : List Row) where
  -- no number in bounds where a number is given, and no range where none is
  pub none_alone : (n : Option ℕ) → IsNumberRead (one_of (codes "threads") given) n → IsOutOfRange given (codes "threads") 2 1 64 → (first last : ℕ) → AreThreadsExplored given first last → ⊥
  none_alone n read none first last (inl one) = none first one.0
  none_alone n read none first last (inr several) = read_or_not (one_of (codes "threads") given) n read several.no_number

  pub none_in_turn : IsSomeAnd (one_of (codes "threads") given) IsNoNumber → ((first last : ℕ) → AreThreadsInTurn given first last → ⊥) → (first last : ℕ) → AreThreadsExplored given first last → ⊥
  none_in_turn not none first last (inl one) = unsaid (one_of (codes "threads") given) first not one.0.said
  none_in_turn not none first last (inr several) = none first last several
