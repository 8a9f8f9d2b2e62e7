-- The questions of a source, and the answers that they expect.
use Rattle.std.specs.Prelude.{◌+◌, ◌++◌, ◌==◌, ◌||◌, ◌&&◌, ℕ, Bool, List, [], ◌∷◌, Option, Some, None, codes, filter, length, not, take}
use Rattle.std.specs.Prelude.{◌-◌, if◌then◌else◌}
use Rattle.std.specs.List.{slice_split}
use Rattle.std.specs.Str.{bytes_eq}
use Rattle.questions.specs.declared.expected.Expected.{Expected}
use Rattle.questions.specs.declared.expected.Expected.TheVariants.{Holds, Fails, Traps, Stuck}

abbrev pub Text : Type 0
Text = List ℕ

-- what parts words: a blank, a tab or a carriage return
abbrev pub is_blank : ℕ → Bool
is_blank b = (b == 32) || (b == 9) || (b == 13)

-- the words of a line
abbrev pub words_of : Text → List Text
words_of line = filter (λ w. not (length w == 0)) (slice_split is_blank line)

-- the lines of a text
abbrev pub lines_of : Text → List Text
lines_of text = slice_split (λ b. b == 10) text

-- the words behind `//` and `txc:`, if a line begins with these two
abbrev pub asking : List Text → Option (List Text)
asking (a ∷ b ∷ words) = if bytes_eq a (codes "//") && bytes_eq b (codes "txc:") then Some words else None
asking _ = None

-- the number of a line and its words, if it is a question
abbrev pub one_of_line : ℕ → Option (List Text) → List (ℕ × List Text)
one_of_line n None = []
one_of_line n (Some words) = (n, words) ∷ []

-- the questions of lines, which are numbered from this one on
abbrev pub questions_from : ℕ → List Text → List (ℕ × List Text)
questions_from n [] = []
questions_from n (line ∷ lines) = one_of_line n (asking (words_of line)) ++ questions_from (n + 1) lines

-- the questions of a text: the number of each line that asks something, from 1, and its words
abbrev pub questions_of : Text → List (ℕ × List Text)
questions_of text = questions_from 1 (lines_of text)

-- the answer that a last word says is expected
abbrev pub expected_by : Text → Expected
expected_by word = if bytes_eq word (codes "(fails)") then Fails else if bytes_eq word (codes "(traps)") then Traps
    else if bytes_eq word (codes "(stuck)") then Stuck else Holds

-- the answer that words expect
abbrev pub expected_of : List Text → Expected
expected_of [] = Holds
expected_of (word ∷ []) = expected_by word
expected_of (word ∷ words) = expected_of words

-- the words without this one
abbrev pub without_last : Expected → List Text → List Text
without_last Holds words = words
without_last _ words = take (length words - 1) words

abbrev pub without_expected : List Text → List Text
without_expected words = without_last (expected_of words) words

-- the exit status of `txc outcomes` for an answer
abbrev pub status_of : Expected → ℕ
status_of Holds = 0
status_of Fails = 5
status_of Traps = 3
status_of Stuck = 4
