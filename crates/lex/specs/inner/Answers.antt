-- The result of one step of the lexer: a kind, or none for what separates tokens, and a length.
use Rattle.std.specs.Prelude.{ℕ, List, Option, Some, None, Result, Ok, Err}
use Rattle.lex.specs.declared.token.Kind.{Kind}
use Rattle.lex.specs.declared.fault.LexFault.{LexFault}
use Rattle.lex.specs.Tokens.{terminal}
use Rattle.lex.specs.Pieces.{IsGap, IsToken}
use Rattle.lex.specs.Faults.{FaultAt}

abbrev pub IsPieceAt : List ℕ → ℕ → Option Kind → ℕ → Type 0
IsPieceAt text at None len = IsGap text at len
IsPieceAt text at (Some k) len = IsToken text at len (terminal k)

abbrev pub AnswersPiece : List ℕ → ℕ → Result (Option Kind × ℕ) LexFault → Type 0
AnswersPiece text at (Ok x) = IsPieceAt text at x.0 x.1
AnswersPiece text at (Err f) = FaultAt text at f
