-- The sign by which a program has an operator is the spelling of its token.
use Rattle.std.proofs.Common.{◌≡◌, ℕ, ap, List, Some}
use Rattle.std.specs.Prelude.{codes, unwrap_or}
use Rattle.std.proofs.lemmas.Option.{none-some}
use Rattle.lex.specs.declared.token.Fixed.{Fixed}
use Rattle.lex.specs.declared.token.Fixed.TheVariants.{Punctuator}
use Rattle.lex.specs.declared.token.Punctuator.TheVariants as punct
use Rattle.lex.specs.Spelling.{spelling}
use Rattle.syntax.specs.declared.tree.BinaryOp.{BinaryOp}
use Rattle.syntax.specs.declared.tree.BinaryOp.TheVariants.{Or, Xor, And, Equal, NotEqual, Less, Greater, LessEqual, GreaterEqual, ShiftLeft, ShiftRight, Add, Subtract, Multiply, Divide, Remainder}
use Rattle.syntax.specs.Grammar.{binary_of}

pub sign_text : BinaryOp → List ℕ
sign_text Or = codes "|"
sign_text Xor = codes "^"
sign_text And = codes "&"
sign_text Equal = codes "=="
sign_text NotEqual = codes "!="
sign_text Less = codes "<"
sign_text Greater = codes ">"
sign_text LessEqual = codes "<="
sign_text GreaterEqual = codes ">="
sign_text ShiftLeft = codes "<<"
sign_text ShiftRight = codes ">>"
sign_text Add = codes "+"
sign_text Subtract = codes "-"
sign_text Multiply = codes "*"
sign_text Divide = codes "/"
sign_text Remainder = codes "%"

pub spelled_as : (op : BinaryOp) (token : Fixed) → binary_of token ≡ Some op → spelling token ≡ sign_text op
unfolding sign_text
spelled_as op (Punctuator punct.Or) e = ap (λ o. sign_text (unwrap_or o op)) e
spelled_as op (Punctuator punct.Xor) e = ap (λ o. sign_text (unwrap_or o op)) e
spelled_as op (Punctuator punct.And) e = ap (λ o. sign_text (unwrap_or o op)) e
spelled_as op (Punctuator punct.Equal) e = ap (λ o. sign_text (unwrap_or o op)) e
spelled_as op (Punctuator punct.NotEqual) e = ap (λ o. sign_text (unwrap_or o op)) e
spelled_as op (Punctuator punct.Less) e = ap (λ o. sign_text (unwrap_or o op)) e
spelled_as op (Punctuator punct.Greater) e = ap (λ o. sign_text (unwrap_or o op)) e
spelled_as op (Punctuator punct.LessEqual) e = ap (λ o. sign_text (unwrap_or o op)) e
spelled_as op (Punctuator punct.GreaterEqual) e = ap (λ o. sign_text (unwrap_or o op)) e
spelled_as op (Punctuator punct.ShiftLeft) e = ap (λ o. sign_text (unwrap_or o op)) e
spelled_as op (Punctuator punct.ShiftRight) e = ap (λ o. sign_text (unwrap_or o op)) e
spelled_as op (Punctuator punct.Plus) e = ap (λ o. sign_text (unwrap_or o op)) e
spelled_as op (Punctuator punct.Minus) e = ap (λ o. sign_text (unwrap_or o op)) e
spelled_as op (Punctuator punct.Star) e = ap (λ o. sign_text (unwrap_or o op)) e
spelled_as op (Punctuator punct.Slash) e = ap (λ o. sign_text (unwrap_or o op)) e
spelled_as op (Punctuator punct.Percent) e = ap (λ o. sign_text (unwrap_or o op)) e
spelled_as op token e = absurd (none-some op e)
