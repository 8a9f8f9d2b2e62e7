-- The symbols of the file.
use Rattle.std.specs.Prelude.{◌≡◌, ℕ, List, Option, Some, None, Bool, false}
use Rattle.syntax.specs.declared.tree.Function.{Function}
use Rattle.syntax.specs.Typing.{is_unknown}
use Rattle.name_tables.specs.Named.{first}
use Rattle.types.specs.declared.symbol.ScopeSymbol.{ScopeSymbol}
use Rattle.types.specs.inner.Scopes.{known_of}

module _ {A : Type 0} where
  -- declared, but with no known kind
  abbrev pub is_nothing : Option (ScopeSymbol (Function A)) → Bool
  is_nothing None = false
  is_nothing (Some symbol) = is_unknown (known_of symbol)

  -- each name is declared as something
  abbrev pub AreSymbols : List (List ℕ × ScopeSymbol (Function A)) → Type 0
  AreSymbols es = (x : List ℕ) → is_nothing (first es x) ≡ false
