-- Lines and columns.
use Rattle.std.specs.Prelude.{ℕ, ◌+◌, ◌==◌, List, count_by, take, reverse}
use Rattle.std.specs.List.{prefix_len}
use Rattle.lex.specs.Bytes.{in_line}

-- the line, counted from 1: one more than the LFs before the offset
abbrev pub line_of : List ℕ → ℕ → ℕ
line_of text offset = count_by (λ b. b == 10) (take offset text) + 1

-- the column, in bytes and counted from 1: one more than the bytes between the last LF before the offset and the offset
abbrev pub column_of : List ℕ → ℕ → ℕ
column_of text offset = prefix_len in_line (reverse (take offset text)) + 1
