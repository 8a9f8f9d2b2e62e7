-- What the table of declared names says, as it is made.
use Rattle.std.proofs.Common.{◌≡◌, ℕ, List, Option, Some, None, Bool, true, false, refl, ap, ◌∙◌, bytes_eq, if◌then◌else◌}
use Rattle.std.specs.Option.{option_or}
use Rattle.name_tables.specs.Named.{first, with_declaration}
use Rattle.name_tables.proofs.Firsts.{first_declared}
use Rattle.syntax.specs.Types.{Known}
use Rattle.program_tables.specs.declared.entries.Symbol.{Symbol}
use Rattle.program_tables.specs.Entries.{known_of}
use Rattle.program_tables.specs.inner.Tables.{known_or}

module _ {A : Type 0} where
  put_last : (b : Bool) (s : Symbol A) (o : Option (Symbol A)) (rest : Known) → known_or (option_or o (if b then Some s else None)) rest ≡ known_or o (if b then known_of s else rest)
  put_last true s None rest = refl
  put_last false s None rest = refl
  put_last b s (Some r) rest = refl

  -- one more declaration
  pub symbol_more : (old new : List (List ℕ × Symbol A)) (name : List ℕ) (s : Symbol A) → new ≡ with_declaration old name s →
      (x : List ℕ) (rest : Known) → known_or (first new x) rest ≡ known_or (first old x) (if bytes_eq name x then known_of s else rest)
  symbol_more old new name s more x rest =
      ap (λ es. known_or (first es x) rest) more
      ∙ ap (λ o. known_or o rest) (first_declared old name s x)
      ∙ put_last (bytes_eq name x) s (first old x) rest
