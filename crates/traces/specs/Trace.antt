-- The text of a trace: a line for each turn, and then how each thread is.
use Rattle.std.specs.Prelude.{ℕ, ◌+◌, ◌-◌, ◌*◌, ◌==◌, Bool, List, [], ◌∷◌, ◌++◌, Option, None, Some, codes, decimal}
use Rattle.std.specs.Prelude.{flat_map, if◌then◌else◌, length, replicate}
use Rattle.std.specs.List.{list_all}
use Rattle.syntax.specs.Behaviours.{Memory}
use Rattle.syntax.specs.Numbers.{trap_number}
use Rattle.syntax.specs.declared.thread_end.Status.{Status}
use Rattle.syntax.specs.declared.thread_end.Status.TheVariants.{Running, Ended as HasEnded, Trapped as HasTrapped}
use Rattle.traces.specs.Columns.{Column, columns_of, mark_text, value_text}
use Rattle.traces.specs.Turns.{Fold, Named, ThreadAt, TurnShown}

-- a text of blanks
abbrev pub are_blanks : List ℕ → Bool
are_blanks text = list_all (λ b. b == 32) text

-- a text without the blanks at its end
abbrev pub trimmed : List ℕ → List ℕ
trimmed [] = []
trimmed (b ∷ bs) = if are_blanks (b ∷ bs) then [] else b ∷ trimmed bs

abbrev pub line_text : List ℕ → List ℕ
line_text text = trimmed text ++ codes "\n"

-- a text to the right or to the left in a column of this width
abbrev pub to_right : (width : ℕ) → List ℕ → List ℕ
to_right width text = replicate (width - length text) 32 ++ text

abbrev pub to_left : (width : ℕ) → List ℕ → List ℕ
to_left width text = text ++ replicate (width - length text) 32

-- a byte of a text in quotes
abbrev pub quoted_byte : ℕ → List ℕ
quoted_byte b = if b == 10 then codes "\\n" else if b == 34 then codes "\\\"" else if b == 92 then codes "\\\\"
    else b ∷ []

-- what a turn prints
abbrev pub printed_words : List ℕ → List ℕ
printed_words [] = []
printed_words (b ∷ bs) = codes "  printed \"" ++ flat_map quoted_byte (b ∷ bs) ++ codes "\""

-- how a thread is after its turn, if it has terminated
abbrev pub status_words : Status → List ℕ
status_words Running = []
status_words HasEnded = codes "  ended"
status_words (HasTrapped k) = codes "  trap " ++ decimal (trap_number k)

-- the first columns of a line
abbrev pub first_columns : (turn thread at : List ℕ) → List ℕ
first_columns turn thread at = to_right 4 turn ++ codes " " ++ to_right 6 thread ++ codes " " ++ to_left 6 at

-- a column of a line
abbrev pub column_text : (width : ℕ) → List ℕ → List ℕ
column_text width text = codes " " ++ to_right width text

-- the names of the columns, and the words of their cells at first
abbrev pub head_words : List Column → List ℕ
head_words columns = first_columns (codes "turn") (codes "thread") (codes "at")
    ++ flat_map (λ (c : Column). column_text c.width c.name) columns

abbrev pub head_line : List Column → List ℕ
head_line columns = line_text (head_words columns)

abbrev pub first_words : List Column → List ℕ
first_words columns = first_columns [] [] []
    ++ flat_map (λ (c : Column). column_text c.width (value_text c.ty c.first)) columns

-- without a column there is no such line
abbrev pub first_line : List Column → List ℕ
first_line [] = []
first_line (c ∷ cs) = line_text (first_words (c ∷ cs))

-- the marks of a turn in these columns
abbrev pub marks_text : List Column → TurnShown → List ℕ
marks_text columns t = flat_map (λ (c : Column). column_text c.width (mark_text c.cell c.ty t.marks)) columns

-- what a turn does apart from memory
abbrev pub cancelled_words : Bool → List ℕ
cancelled_words is_cancelled = if is_cancelled then codes "  cancelled" else []

abbrev pub told_words : TurnShown → List ℕ
told_words t = if t.is_idle then codes "  none: terminated"
    else cancelled_words t.is_cancelled ++ printed_words t.printed ++ status_words t.status

-- the line of a turn, with this text where its number is: its columns, and its words
abbrev pub turn_columns : List Column → (number : List ℕ) → TurnShown → List ℕ
turn_columns columns number t = first_columns number (decimal t.thread) t.at ++ marks_text columns t

abbrev pub turn_words : TurnShown → List ℕ
turn_words t = codes "   " ++ t.words ++ told_words t

abbrev pub turn_line : List Column → (number : List ℕ) → TurnShown → List ℕ
turn_line columns number t = line_text (turn_columns columns number t ++ turn_words t)

-- the line that says which turns come again, the last of which has number n
abbrev pub fold_line : ℕ → Option Fold → List ℕ
fold_line n None = []
fold_line n (Some f) = codes "  turns " ++ decimal (n - f.period + 1) ++ codes " to " ++ decimal n ++ codes ", "
    ++ decimal f.times ++ codes " times\n"

abbrev pub counted_lines : List Column → ℕ → TurnShown → List ℕ
counted_lines columns n t = turn_line columns (decimal n) t ++ fold_line n t.fold

-- the number after turn number n, where turns that come again are counted each time
abbrev pub number_after : ℕ → Option Fold → ℕ
number_after n None = n + 1
number_after n (Some f) = n + 1 + f.period * (f.times - 1)

-- the lines of turns from this number on
abbrev pub turn_lines : List Column → ℕ → List TurnShown → List ℕ
turn_lines columns n [] = []
turn_lines columns n (t ∷ ts) = counted_lines columns n t ++ turn_lines columns (number_after n t.fold) ts

-- the lines of what threads do before their first turns
abbrev pub begun_lines : List Column → List TurnShown → List ℕ
begun_lines columns begun = flat_map (turn_line columns []) begun

abbrev pub table_text : List Column → (begun turns : List TurnShown) → List ℕ
table_text columns begun turns = head_line columns ++ first_line columns ++ begun_lines columns begun
    ++ turn_lines columns 1 turns

-- how a thread is after the last turn
abbrev pub end_words : Status → List ℕ
end_words Running = codes "next"
end_words HasEnded = codes "ended"
end_words (HasTrapped k) = codes "trap " ++ decimal (trap_number k)

abbrev pub end_line : ℕ → ThreadAt → List ℕ
end_line n t = codes "thread " ++ decimal n ++ codes ": " ++ end_words t.status ++ t.at ++ codes "\n"

-- the lines of threads from this number on
abbrev pub end_lines : ℕ → List ThreadAt → List ℕ
end_lines n [] = []
end_lines n (t ∷ ts) = end_line n t ++ end_lines (n + 1) ts

-- the trace of turns, from this memory on
abbrev pub trace_text : List Named → (first : Memory) → (begun turns : List TurnShown) → List ThreadAt → List ℕ
trace_text names first begun turns ends = table_text (columns_of names first turns) begun turns ++ end_lines 0 ends
