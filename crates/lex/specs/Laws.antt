-- The positions of a text's tokens.
use Rattle.std.specs.Prelude.{ℕ, ◌-◌, ◌<◌, ◌≤◌, List, [], ◌∷◌, take, drop}
use Rattle.lex.specs.declared.token.Span.{Span}
use Rattle.lex.specs.Tokens.{Tok}
use Rattle.lex.specs.Pieces.{Says}

-- the bytes that a span covers
abbrev pub slice : List ℕ → Span → List ℕ
slice text s = take (s.«end» - s.start) (drop s.start text)

-- the tokens are in order between two offsets, none empty and none overlapping, and each has the kind of the bytes of
-- its span
abbrev pub Lie : List ℕ → ℕ → ℕ → List Tok → Type 0
Lie text from to [] = from ≤ to
Lie text from to (t ∷ ts) =
    (from ≤ t.span.start) × (t.span.start < t.span.«end») × Says (slice text t.span) t.terminal
    × Lie text t.span.«end» to ts
