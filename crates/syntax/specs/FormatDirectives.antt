-- The directive at an index of a format, and where the rest begins.
use Rattle.std.specs.Prelude.{◌≡◌, ℕ, ◌-◌, ◌<◌, ◌≤◌, List, ◌∷◌, length, drop, Bool, ◌==◌, ◌&&◌, if◌then◌else◌}
use Rattle.syntax.specs.Tree.{Scalar}
use Rattle.syntax.specs.Formats.{Specifier, literal, pieces, is_format}
use Rattle.syntax.specs.declared.format.FormatDirective as D
use Rattle.syntax.specs.declared.format.FormatDirective.TheVariants as directive

-- this many bytes spell a literal byte: two for a percent sign, and one for any other
abbrev pub says : ℕ → ℕ → Bool
says bytes c = if c == 37 then bytes == 2 else bytes == 1

-- a literal byte is here, or a number; and whether all from here on is a format
pub record IsByteAt (c next : ℕ) (format : List ℕ) (i : ℕ) : Type 0 where
  pub is : pieces (drop i format) ≡ literal c (pieces (drop next format))
  pub right : is_format (drop i format) ≡ (says (next - i) c && is_format (drop next format))
  pub after : i < next
  pub within : next ≤ length format

pub record IsSpecifierAt (t : Scalar) (next : ℕ) (format : List ℕ) (i : ℕ) : Type 0 where
  pub is : pieces (drop i format) ≡ Specifier t ∷ pieces (drop next format)
  pub right : is_format (drop i format) ≡ is_format (drop next format)
  pub after : i < next
  pub within : next ≤ length format

abbrev pub IsDirectiveAt : D.FormatDirective → List ℕ → ℕ → Type 0
IsDirectiveAt (directive.Byte c next) format i = IsByteAt c next format i
IsDirectiveAt (directive.Specifier t next) format i = IsSpecifierAt t next format i
