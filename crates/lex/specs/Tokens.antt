-- Tokens as the definitions see them: without the location of their text in the program's own memory.
use Rattle.std.specs.Prelude.{ℕ, List, [], ◌∷◌, ◌==◌, if◌then◌else◌, map}
use Rattle.lex.specs.declared.token.Kind.{Kind}
use Rattle.lex.specs.declared.token.Kind.TheVariants as kind
use Rattle.lex.specs.declared.token.Fixed.TheVariants.{Keyword, Punctuator}
use Rattle.lex.specs.declared.token.Fixed.{Fixed}
use Rattle.lex.specs.declared.token.Scalar.{Scalar}
use Rattle.lex.specs.declared.token.Span.{Span}
use Rattle.lex.specs.declared.token.Token.{Token}

-- the kind of a token: a terminal of the grammar
pub data Terminal : Type 0 where
  name : (text : List ℕ) → Terminal
  constant : (value : ℕ) (ty : Scalar) → Terminal
  string_literal : (written : List ℕ) → Terminal
  fixed : Fixed → Terminal
  reserved : Terminal

abbrev pub terminal : Kind → Terminal
terminal (kind.Name s) = name s.now
terminal (kind.Constant n t) = constant n t
terminal (kind.StringLiteral s) = string_literal s.now
terminal (kind.Keyword k) = fixed (Keyword k)
terminal (kind.Punctuator p) = fixed (Punctuator p)
terminal kind.Reserved = reserved

-- a token, with its span
pub record Tok : Type 0 where
  pub terminal : Terminal
  pub span : Span

abbrev pub tok : Token → Tok
tok t = record { terminal = terminal t.kind; span = t.span }

abbrev pub toks : List Token → List Tok
toks = map tok

-- the byte that a backslash and this one denote: `\n` is LF, `\t` is tab, `\\` and `\"` are their second byte
abbrev pub stands_for : ℕ → ℕ
stands_for b = if b == 110 then 10 else (if b == 116 then 9 else b)

-- the bytes that a string denotes, from its spelling: a backslash and the byte after it are one
abbrev pub string_value : List ℕ → List ℕ
string_value [] = []
string_value (a ∷ []) = a ∷ []
string_value (a ∷ b ∷ rest) = if a == 92 then stands_for b ∷ string_value rest else a ∷ string_value (b ∷ rest)
