-- Whether a source's text is accepted.
use Rattle.std.specs.Prelude.{◌≡◌, ℕ, List, Option, codes}
use Rattle.std.specs.Io.KnownBytes.{Appends}
use Rattle.lex.specs.Tokens.{Tok}
use Rattle.lex.specs.Pieces.{IsLexed}
use Rattle.syntax.specs.Grammar.{ParsedSource, Spells}
use Rattle.separation.specs.Touching.{IsAccepted}

-- the tokens of a text spell this program
pub record IsSourceOf (text : List ℕ) (source : ParsedSource) : Type 0 where
  pub tokens : List Tok
  pub lexed : IsLexed text tokens
  pub spelled : Spells source tokens

-- the text spells an accepted program
pub record Accepts (text : List ℕ) : Type 0 where
  pub source : ParsedSource
  pub spelled : IsSourceOf text source
  pub accepted : ∥ IsAccepted source.program ∥₁

-- the status 0 reports that a source is accepted, and that this was written
abbrev pub SaysAccepted : List ℕ → ℕ → Option (List ℕ) → Option (List ℕ) → Type 0
SaysAccepted text status old new = status ≡ 0 → Accepts text × Appends old new (codes "accepted\n")
