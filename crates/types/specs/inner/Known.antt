-- The names known at a point of a text.
use Rattle.std.specs.Prelude.{◌≡◌, ℕ, List, [], ◌∷◌, Option, Some, None, Bool, false, nat_le, length, take}
use Rattle.syntax.specs.declared.tree.Function.{Function}
use Rattle.syntax.specs.Tree.{Scalar, Declarator}
use Rattle.syntax.specs.Types.{Known, Unknown, Number, Scope}
use Rattle.syntax.specs.Typing.{has_name}
use Rattle.name_tables.specs.Named.{first, newest}
use Rattle.name_tables.specs.Known.{entries_in, locals_in}
use Rattle.types.specs.declared.symbol.ScopeSymbol.{ScopeSymbol}
use Rattle.types.specs.declared.table.ScopeTable.{ScopeTable}
use Rattle.types.specs.inner.Scopes.{known_of}

-- the newest local of a name hides the file's declaration
abbrev pub known_as : {A : Type 0} → Option (ℕ × Scalar) → Option (ScopeSymbol (Function A)) → Known
known_as (Some l) declared = Number l.1
known_as None (Some symbol) = known_of symbol
known_as None None = Unknown

-- a local that was declared after this many
abbrev pub is_behind : ℕ → Option (ℕ × Scalar) → Bool
is_behind start None = false
is_behind start (Some l) = nat_le start l.0

module _ {A : Type 0} where
  -- the locals, in order of declaration
  abbrev pub locals_of : ScopeTable A → List (List ℕ × Scalar)
  locals_of n = locals_in n.locals

  -- the names of the file, as each was first declared
  abbrev pub file_of : ScopeTable A → List (List ℕ × ScopeSymbol (Function A))
  file_of n = entries_in n.file

  unfoldable pub known_in : ScopeTable A → Scope
  known_in n x = known_as (newest (locals_of n) x) (first (file_of n) x)

  -- the number of locals
  abbrev pub count_in : ScopeTable A → ℕ
  count_in n = length (locals_of n)

  -- a scope has grown: there may be further locals; without them it is unchanged
  pub record Grows (old new : ScopeTable A) : Type 0 where
    pub locals : take (count_in old) (locals_of new) ≡ locals_of old
    pub file : file_of new ≡ file_of old

  -- two scopes know the same names
  pub record Agrees (old new : ScopeTable A) : Type 0 where
    pub locals : locals_of new ≡ locals_of old
    pub file : file_of new ≡ file_of old

  -- these are the names declared since there were this many locals
  abbrev pub AreDeclared : ℕ → ScopeTable A → List (List ℕ) → Type 0
  AreDeclared start n declared = (x : List ℕ) → is_behind start (newest (locals_of n) x) ≡ has_name declared x

-- the names of a scope after these declarators
abbrev pub declared_by : List Declarator → List (List ℕ) → List (List ℕ)
declared_by [] ns = ns
declared_by (d ∷ ds) ns = declared_by ds (d.name.text ∷ ns)
