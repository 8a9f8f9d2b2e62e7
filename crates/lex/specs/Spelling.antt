-- The spelling of tokens with one spelling, and the reserved words.
use Rattle.std.specs.Prelude.{ℕ, List, ◌≡◌, codes}
use Rattle.lex.specs.declared.token.Fixed.{Fixed}
use Rattle.lex.specs.declared.token.Fixed.TheVariants.{Keyword, Punctuator}
use Rattle.lex.specs.declared.token.Keyword.TheVariants as key
use Rattle.lex.specs.declared.token.Punctuator.TheVariants as punct

-- keywords (C11 6.4.1 and the transactions of GNU C), and then punctuators (C11 6.4.6)
abbrev pub spelling : Fixed → List ℕ
spelling (Keyword key.Int) = codes "int"
spelling (Keyword key.Unsigned) = codes "unsigned"
spelling (Keyword key.Signed) = codes "signed"
spelling (Keyword key.Long) = codes "long"
spelling (Keyword key.Void) = codes "void"
spelling (Keyword key.If) = codes "if"
spelling (Keyword key.Else) = codes "else"
spelling (Keyword key.While) = codes "while"
spelling (Keyword key.Do) = codes "do"
spelling (Keyword key.For) = codes "for"
spelling (Keyword key.Break) = codes "break"
spelling (Keyword key.Continue) = codes "continue"
spelling (Keyword key.Return) = codes "return"
spelling (Keyword key.Printf) = codes "printf"
spelling (Keyword key.Atomic) = codes "__transaction_atomic"
spelling (Keyword key.Relaxed) = codes "__transaction_relaxed"
spelling (Keyword key.Cancel) = codes "__transaction_cancel"
spelling (Keyword key.Attribute) = codes "__attribute__"
spelling (Punctuator punct.OpenBrace) = codes "{"
spelling (Punctuator punct.CloseBrace) = codes "}"
spelling (Punctuator punct.OpenParen) = codes "("
spelling (Punctuator punct.CloseParen) = codes ")"
spelling (Punctuator punct.OpenBracket) = codes "["
spelling (Punctuator punct.CloseBracket) = codes "]"
spelling (Punctuator punct.Semicolon) = codes ";"
spelling (Punctuator punct.Comma) = codes ","
spelling (Punctuator punct.Question) = codes "?"
spelling (Punctuator punct.Colon) = codes ":"
spelling (Punctuator punct.Assign) = codes "="
spelling (Punctuator punct.AddAssign) = codes "+="
spelling (Punctuator punct.SubtractAssign) = codes "-="
spelling (Punctuator punct.MultiplyAssign) = codes "*="
spelling (Punctuator punct.DivideAssign) = codes "/="
spelling (Punctuator punct.RemainderAssign) = codes "%="
spelling (Punctuator punct.ShiftLeftAssign) = codes "<<="
spelling (Punctuator punct.ShiftRightAssign) = codes ">>="
spelling (Punctuator punct.AndAssign) = codes "&="
spelling (Punctuator punct.OrAssign) = codes "|="
spelling (Punctuator punct.XorAssign) = codes "^="
spelling (Punctuator punct.Increment) = codes "++"
spelling (Punctuator punct.Decrement) = codes "--"
spelling (Punctuator punct.LogicalOr) = codes "||"
spelling (Punctuator punct.LogicalAnd) = codes "&&"
spelling (Punctuator punct.Or) = codes "|"
spelling (Punctuator punct.Xor) = codes "^"
spelling (Punctuator punct.And) = codes "&"
spelling (Punctuator punct.Equal) = codes "=="
spelling (Punctuator punct.NotEqual) = codes "!="
spelling (Punctuator punct.Less) = codes "<"
spelling (Punctuator punct.Greater) = codes ">"
spelling (Punctuator punct.LessEqual) = codes "<="
spelling (Punctuator punct.GreaterEqual) = codes ">="
spelling (Punctuator punct.ShiftLeft) = codes "<<"
spelling (Punctuator punct.ShiftRight) = codes ">>"
spelling (Punctuator punct.Plus) = codes "+"
spelling (Punctuator punct.Minus) = codes "-"
spelling (Punctuator punct.Star) = codes "*"
spelling (Punctuator punct.Slash) = codes "/"
spelling (Punctuator punct.Percent) = codes "%"
spelling (Punctuator punct.Not) = codes "!"
spelling (Punctuator punct.Complement) = codes "~"

-- the words that C reserves and that this language does not use
pub data Reserved (w : List ℕ) : Type 0 where
  is_auto : w ≡ codes "auto" → Reserved w
  is_char : w ≡ codes "char" → Reserved w
  is_const : w ≡ codes "const" → Reserved w
  is_default : w ≡ codes "default" → Reserved w
  is_case : w ≡ codes "case" → Reserved w
  is_double : w ≡ codes "double" → Reserved w
  is_enum : w ≡ codes "enum" → Reserved w
  is_extern : w ≡ codes "extern" → Reserved w
  is_float : w ≡ codes "float" → Reserved w
  is_goto : w ≡ codes "goto" → Reserved w
  is_inline : w ≡ codes "inline" → Reserved w
  is_register : w ≡ codes "register" → Reserved w
  is_restrict : w ≡ codes "restrict" → Reserved w
  is_short : w ≡ codes "short" → Reserved w
  is_sizeof : w ≡ codes "sizeof" → Reserved w
  is_static : w ≡ codes "static" → Reserved w
  is_struct : w ≡ codes "struct" → Reserved w
  is_switch : w ≡ codes "switch" → Reserved w
  is_typedef : w ≡ codes "typedef" → Reserved w
  is_union : w ≡ codes "union" → Reserved w
  is_volatile : w ≡ codes "volatile" → Reserved w
