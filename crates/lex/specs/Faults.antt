-- The fault of a text without tokens: the first one, its number and its span.
use Rattle.std.specs.Prelude.{◌≡◌, ℕ, ◌+◌, ◌<◌, ◌≤◌, true, List, [], ◌∷◌, length, take, drop, codes, Option, Some, None}
use Rattle.std.specs.List.{prefix_len}
use Rattle.lex.specs.declared.lexer.TheConstants.{MOST_BYTES}
use Rattle.lex.specs.declared.token.Scalar.{Scalar}
use Rattle.lex.specs.declared.token.Span.{Span}
use Rattle.lex.specs.declared.fault.LexFault.{LexFault}
use Rattle.lex.specs.declared.fault.LexFault.TheVariants as fault
use Rattle.lex.specs.Bytes.{is_glue, is_continuation, starts}
use Rattle.lex.specs.Tokens.{Tok}
use Rattle.lex.specs.Pieces.{IsOpen, IsDirective, IsInclude, Constant, constant_type, Longest, HasNoShape, FirstOnLine}
use Rattle.lex.specs.Pieces.{Cut}

-- the length in bytes of the character at the front
abbrev pub character_len : List ℕ → ℕ
character_len [] = 0
character_len (b ∷ rest) = 1 + prefix_len is_continuation rest

-- the fault at the offset
pub data FaultAt (text : List ℕ) (at : ℕ) : LexFault → Type 0 where
  strange : at < length text → HasNoShape (drop at text) →
      FaultAt text at (fault.BadCharacter (record { start = at; «end» = at + character_len (drop at text) }))
  misplaced : (len : ℕ) → Longest (drop at text) len → IsDirective (take len (drop at text)) →
      ¬ (FirstOnLine (take at text)) → FaultAt text at (fault.BadCharacter (record { start = at; «end» = at + 1 }))
  glued : (len : ℕ) (t : Scalar) → Longest (drop at text) len → (c : Constant (take len (drop at text))) →
      constant_type c ≡ Some t → starts is_glue (drop len (drop at text)) ≡ true →
      FaultAt text at (fault.BadCharacter (record { start = at + len; «end» = at + len + 1 }))
  large : (len : ℕ) → Longest (drop at text) len → (c : Constant (take len (drop at text))) → constant_type c ≡ None →
      FaultAt text at (fault.ConstantTooLarge (record { start = at; «end» = at + len }))
  unclosed : (len : ℕ) → Longest (drop at text) len → IsOpen (take len (drop at text)) →
      FaultAt text at (fault.OpenComment (record { start = at; «end» = at + len }))
  quote : (len : ℕ) → Longest (drop at text) len → take len (drop at text) ≡ codes "\"" →
      FaultAt text at (fault.BadString (record { start = at; «end» = at + 1 }))
  unknown : (len : ℕ) → Longest (drop at text) len → IsDirective (take len (drop at text)) →
      FirstOnLine (take at text) → ¬ (IsInclude (take len (drop at text))) →
      FaultAt text at (fault.Directive (record { start = at; «end» = at + 1 }))

-- the text is cut up to an offset that has this fault
pub record IsFirst (text : List ℕ) (f : LexFault) : Type 0 where
  pub short : length text ≤ MOST_BYTES
  pub at : ℕ
  pub tokens : List Tok
  pub cut : Cut text at tokens
  pub wrong : FaultAt text at f

-- the fault that the text has; nothing is claimed on allocation failure
abbrev pub IsFault : List ℕ → LexFault → Type 0
IsFault text fault.OutOfMemory = Unit {0}
IsFault text fault.FileTooLong = MOST_BYTES < length text
IsFault text (fault.BadCharacter s) = IsFirst text (fault.BadCharacter s)
IsFault text (fault.ConstantTooLarge s) = IsFirst text (fault.ConstantTooLarge s)
IsFault text (fault.OpenComment s) = IsFirst text (fault.OpenComment s)
IsFault text (fault.BadString s) = IsFirst text (fault.BadString s)
IsFault text (fault.Directive s) = IsFirst text (fault.Directive s)

-- ---- a fault's number and span

abbrev pub number_of : LexFault → ℕ
number_of fault.OutOfMemory = 0
number_of (fault.BadCharacter s) = 1
number_of (fault.ConstantTooLarge s) = 2
number_of (fault.OpenComment s) = 3
number_of (fault.BadString s) = 4
number_of fault.FileTooLong = 5
number_of (fault.Directive s) = 6

abbrev pub span_of : LexFault → Option Span
span_of fault.OutOfMemory = None
span_of (fault.BadCharacter s) = Some s
span_of (fault.ConstantTooLarge s) = Some s
span_of (fault.OpenComment s) = Some s
span_of (fault.BadString s) = Some s
span_of fault.FileTooLong = Some (record { start = 0; «end» = 0 })
span_of (fault.Directive s) = Some s
