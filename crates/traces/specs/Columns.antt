-- The columns of a trace: one for each cell that some turn reads or writes.
use Rattle.std.specs.Prelude.{ℕ, zero, suc, ◌==◌, Bool, List, [], ◌∷◌, ◌++◌, codes, length, max}
use Rattle.std.specs.Prelude.{if◌then◌else◌, slice_index_or}
use Rattle.std.specs.Fmt.{signed_decimal}
use Rattle.std.specs.List.{list_any}
use Rattle.lex.specs.declared.token.Scalar.{Scalar}
use Rattle.syntax.specs.Behaviours.{Memory}
use Rattle.syntax.specs.Numbers.{number}
use Rattle.traces.specs.Names.{cell_of}
use Rattle.traces.specs.Turns.{Mark, Named, TurnShown}

-- a column: its cell with the name and the type of that, its word at first, and how wide it is
pub record Column : Type 0 where
  pub cell : ℕ
  pub name : List ℕ
  pub ty : Scalar
  pub first : ℕ
  pub width : ℕ

abbrev pub value_text : Scalar → ℕ → List ℕ
value_text ty word = signed_decimal (number ty word)

-- `>` and the value that is written, or the value that is read
abbrev pub mark_words : Scalar → Mark → List ℕ
mark_words ty m = if m.is_written then codes ">" ++ value_text ty m.left else value_text ty m.found

-- the mark of a cell among these, or `.` if there is none
abbrev pub mark_text : (cell : ℕ) → Scalar → List Mark → List ℕ
mark_text cell ty [] = codes "."
mark_text cell ty (m ∷ ms) = if m.cell == cell then mark_words ty m else mark_text cell ty ms

-- the width of the widest of these marks, if it exceeds this one
abbrev pub widest : (cell : ℕ) → Scalar → (width : ℕ) → List TurnShown → ℕ
widest cell ty width [] = width
widest cell ty width (t ∷ ts) = widest cell ty (max width (length (mark_text cell ty t.marks))) ts

abbrev pub has_mark : (cell : ℕ) → List Mark → Bool
has_mark cell marks = list_any (λ (m : Mark). m.cell == cell) marks

-- some turn reads or writes the cell
abbrev pub is_touched : (cell : ℕ) → List TurnShown → Bool
is_touched cell turns = list_any (λ (t : TurnShown). has_mark cell t.marks) turns

module _ (names : List Named) (first : Memory) (turns : List TurnShown) where
  abbrev pub column_at : ℕ → Column
  column_at c =
      let cell = cell_of names c in
      let word = slice_index_or first c 0 in
      record {
        cell = c;
        name = cell.name;
        ty = cell.ty;
        first = word;
        width = widest c cell.ty (max (length cell.name) (length (value_text cell.ty word))) turns;
      }

  -- the columns of the first n cells
  abbrev pub columns_to : ℕ → List Column
  columns_to zero = []
  columns_to (suc n) = columns_to n ++ (if is_touched n turns then column_at n ∷ [] else [])

  abbrev pub columns_of : List Column
  columns_of = columns_to (length first)
