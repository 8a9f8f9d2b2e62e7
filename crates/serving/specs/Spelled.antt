-- Programs that texts spell.
use Rattle.std.specs.Prelude.{ℕ, List}
use Rattle.syntax.specs.Tree.{Program}
use Rattle.syntax.specs.Grammar.{ParsedSource}
use Rattle.separation.specs.Touching.{IsAccepted}
use Rattle.serving.specs.Checks.{IsSourceOf}

-- a text spells an accepted program for which this holds
pub record IsTextOfProgram (text : List ℕ) (IsSo : Program → Type 0) : Type 0 where
  pub source : ParsedSource
  pub spelled : IsSourceOf text source
  pub accepted : ∥ IsAccepted source.program ∥₁
  pub is_so : IsSo source.program
