-- The names of cells.
use Rattle.std.specs.Prelude.{ℕ, ◌-◌, List, [], ◌∷◌, ◌++◌, Option, None, Some, codes, decimal, map, nat_lt}
use Rattle.std.specs.Prelude.{if◌then◌else◌, option_map, unwrap_or}
use Rattle.lex.specs.declared.token.Scalar.{Scalar}
use Rattle.lex.specs.declared.token.Scalar.TheVariants.{Int}
use Rattle.syntax.specs.Names.{globals}
use Rattle.syntax.specs.Tree.{Global, Program}
use Rattle.traces.specs.Turns.{Named}

-- a cell: its name and its type
pub record NamedCell : Type 0 where
  pub name : List ℕ
  pub ty : Scalar

abbrev pub named_global : Global → Named
named_global g = record { name = g.name.text; ty = g.ty; length = option_map (λ n. n.0) g.length }

-- the globals of a program, in order of declaration
abbrev pub names_of : Program → List Named
names_of p = map named_global (globals p)

-- a cell of a global: an element of an array has its index in brackets
abbrev pub index_words : Option ℕ → ℕ → List ℕ
index_words None c = []
index_words (Some n) c = codes "[" ++ decimal c ++ codes "]"

abbrev pub cell_count : Named → ℕ
cell_count g = unwrap_or g.length 1

-- cell number c of these globals
abbrev pub cell_of : List Named → ℕ → NamedCell
cell_of [] c = record { name = []; ty = Int }
cell_of (g ∷ gs) c =
    if nat_lt c (cell_count g) then record { name = g.name ++ index_words g.length c; ty = g.ty }
    else cell_of gs (c - cell_count g)
