-- Rows that are written for lines.
use Rattle.std.specs.Prelude.{◌^◌, ◌<◌, ℕ, List, ◌++◌, codes, decimal}
use Rattle.replay.specs.declared.line.Line.{Line}
use Rattle.replay.specs.Schedules.{letter}

abbrev pub row_of : Line → List ℕ
row_of line = decimal line.thread ++ (codes " " ++ (letter line.accesses ++ decimal line.count))

-- a row and its end
abbrev pub line_text : Line → List ℕ
line_text line = row_of line ++ codes "\n"

-- a line's numbers are below 2 ^ 32
abbrev pub IsInBounds : Line → Type 0
IsInBounds line = (line.thread < 2 ^ 32) × (line.count < 2 ^ 32)
