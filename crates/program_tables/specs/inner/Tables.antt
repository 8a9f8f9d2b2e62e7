-- When a table belongs to a program.
use Rattle.std.specs.Prelude.{◌≡◌, ℕ, suc, ◌+◌, List, [], ◌∷◌, Option, Some, None, option_map, if◌then◌else◌, bytes_eq}
use Rattle.name_tables.specs.declared.entries.Table.{Table}
use Rattle.name_tables.specs.Known.{entries_in}
use Rattle.name_tables.specs.Named.{first}
use Rattle.syntax.specs.Tree.{Global, Function, Stmts, Item, Defines, Shares, Program}
use Rattle.syntax.specs.Names.{GlobalCells, cells, global_of}
use Rattle.syntax.specs.Types.{Known, Unknown, file_scope}
use Rattle.program_tables.specs.Functions.{NumberedFunction}
use Rattle.program_tables.specs.Entries.{shared_in, known_of}
use Rattle.program_tables.specs.declared.entries.Shared.{Shared}
use Rattle.program_tables.specs.declared.entries.FunctionPlace.{FunctionPlace}
use Rattle.program_tables.specs.declared.entries.Symbol.{Symbol}

-- the number of all cells
abbrev pub total_cells : List Global → ℕ
total_cells [] = 0
total_cells (g ∷ gs) = cells g + total_cells gs

-- the position of a function of this name, if it has a body, or else of one of the rest
abbrev pub place_first : ℕ → ℕ → Function → Option Stmts → (ℕ → Option FunctionPlace) → List ℕ → Option FunctionPlace
place_first i n f None rest x = rest n
place_first i n f (Some body) rest x =
    if bytes_eq f.name.text x then Some (record { item = i; number = n }) else rest (suc n)

-- the position of the function of this name, if the first of these items, and the first of them that has a body, have
-- these numbers
abbrev pub place_from : ℕ → ℕ → Program → List ℕ → Option FunctionPlace
place_from i n [] x = None
place_from i n (Shares gs ∷ items) x = place_from (suc i) n items x
place_from i n (Defines f ∷ items) x = place_first i n f f.body (λ m. place_from (suc i) m items x) x

-- an item's function, which has this number, if the item gives it a body
abbrev pub numbered : ℕ → Item → Option NumberedFunction
numbered n (Shares gs) = None
numbered n (Defines f) = option_map (λ (body : Stmts). record { number = n; definition = (f, body) }) f.body

module _ {A : Type 0} where
  -- the global that a table has for a text, with its first cell
  abbrev pub shared_at : Table (Shared A) A → List ℕ → Option GlobalCells
  shared_at t x = option_map shared_in (first (entries_in t) x)

  -- the table holds the globals of a program
  abbrev pub AreGlobals : Program → Table (Shared A) A → Type 0
  AreGlobals p t = (x : List ℕ) → shared_at t x ≡ global_of p x

  -- the table holds the functions of a program that have a body
  abbrev pub AreFunctions : Program → Table FunctionPlace A → Type 0
  AreFunctions p t = (x : List ℕ) → first (entries_in t) x ≡ place_from 0 0 p x

  -- the meaning of the symbol that was found, or else a default
  abbrev pub known_or : Option (Symbol A) → Known → Known
  known_or None rest = rest
  known_or (Some s) rest = known_of s

  -- each name of a program is first declared as this
  abbrev pub AreSymbols : Program → Table (Symbol A) A → Type 0
  AreSymbols p t = (x : List ℕ) → known_or (first (entries_in t) x) Unknown ≡ file_scope p x
