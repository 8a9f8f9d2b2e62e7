-- The code of a source's text.
use Rattle.std.specs.Prelude.{◌≡◌, ℕ, List}
use Rattle.syntax.specs.Tree.{Program}
use Rattle.syntax.specs.Names.{globals}
use Rattle.syntax.specs.Grammar.{ParsedSource}
use Rattle.separation.specs.Touching.{IsAccepted}
use Rattle.bytecode.specs.Code.{Code}
use Rattle.lower_spec.specs.Means.{MeansItsProgram}
use Rattle.serving.specs.Checks.{IsSourceOf}

-- this code means a program, and has its globals
pub record IsCodeOf (p : Program) (code : Code) : Type 0 where
  pub means : MeansItsProgram p code
  pub globals : code.globals ≡ globals p

-- the text spells an accepted program, and this is code of it
pub record Compiles (text : List ℕ) (code : Code) : Type 0 where
  pub source : ParsedSource
  pub spelled : IsSourceOf text source
  pub accepted : ∥ IsAccepted source.program ∥₁
  pub compiled : IsCodeOf source.program code
