-- What an expression begins with, what it covers, and what may follow it.
use Rattle.std.proofs.Common.{◌≡◌, ◌≤◌, Bool, true, false, List, [], ◌∷◌, ◌++◌, Option, Some, None, refl, sym, ap, subst, ◌∙◌, append_assoc, arith, lit≤, is_some}
use Rattle.lex.specs.declared.token.Fixed.{Fixed}
use Rattle.lex.specs.declared.token.Fixed.TheVariants.{Keyword, Punctuator}
use Rattle.lex.specs.declared.token.Keyword.TheVariants as key
use Rattle.lex.specs.declared.token.Punctuator.TheVariants as punct
use Rattle.lex.specs.declared.token.Span.{Span}
use Rattle.lex.specs.Tokens.{Terminal, name, constant, string_literal, fixed, reserved, Tok}
use Rattle.syntax.specs.declared.tree.BinaryOp.{BinaryOp}
use Rattle.syntax.specs.declared.tree.UnaryOp.{UnaryOp}
use Rattle.syntax.specs.declared.tree.IncDec.{IncDec}
use Rattle.syntax.specs.declared.tree.Mode.{Mode}
use Rattle.syntax.specs.declared.tree.Mode.TheVariants.{Atomic, Relaxed}
use Rattle.syntax.specs.Tree.{Name, Expr, Variable, Constant, Element, Call, Parenthesized, Cast, Unary, Binary, Logical, Conditional, InTransaction}
use Rattle.syntax.specs.Depth.{expr_depth}
use Rattle.syntax.specs.Typing.{span_of}
use Rattle.syntax.specs.Phrases.{Phrase, Seq, One, Begins, Covers, is_fixed, the_fixed}
use Rattle.syntax.specs.Grammar.{by_fixed, name_in, the_name, IntegerConstant, integer_constant_in, unary_of, binary_of, logical_of, the_unary, assigning_of, the_assigning, step_of, the_step, level, mode_keyword, expr}
use Rattle.parse.specs.declared.lead.Infix.{Infix}
use Rattle.parse.specs.declared.lead.Operand.{Operand}
use Rattle.parse.specs.declared.lead.Operand.TheVariants as kind
use Rattle.parse.specs.inner.Reading.{head, is_next, at_least, op_at}
use Rattle.parse.specs.inner.Expressions.{says, type_of_fixed, starts_type, infix_of, operators, operand_terminal, operand_at, is_operand, starts_expr}
use Rattle.parse.proofs.combinators.FixedTokens.{that_fixed, fixed_is, fixed_has, a_fixed, one_head, seq_head}
use Rattle.parse.proofs.combinators.Parts.{fixed_has_span, span_is_fixed}
use Rattle.parse.proofs.expressions.Scalars.{some_name, some_name_token}

-- ---- what may follow

-- operators aside: a name at the end takes what stands in brackets and parentheses
abbrev pub Calm : Expr → Option Tok → Type 0
Calm (Variable x) h = (is_next (Punctuator punct.OpenBracket) h ≡ false) × (is_next (Punctuator punct.OpenParen) h ≡ false)
Calm (Cast t e at) h = Calm e h
Calm (Unary op e at) h = Calm e h
Calm (Binary op a b at) h = Calm b h
Calm (Logical op a b at) h = Calm b h
Calm (Conditional c a b at) h = Calm b h
Calm _ h = Unit {0}

-- what may follow any expression
abbrev pub WholeS : Expr → Option Tok → Type 0
WholeS e h = ((op_at operators 1 h ≡ None) × Calm e h) × (is_next (Punctuator punct.Question) h ≡ false)

pub calm_any : (e : Expr) (h : Option Tok) → is_next (Punctuator punct.OpenBracket) h ≡ false → is_next (Punctuator punct.OpenParen) h ≡ false → Calm e h
calm_any (Variable x) h a b = (a, b)
calm_any (Cast t e at) h a b = calm_any e h a b
calm_any (Unary op e at) h a b = calm_any e h a b
calm_any (Binary op x e at) h a b = calm_any e h a b
calm_any (Logical op x e at) h a b = calm_any e h a b
calm_any (Conditional c x e at) h a b = calm_any e h a b
calm_any e h a b = tt

-- `; ) ] , :` and the punctuators of assignments and steps
abbrev pub is_closing : Fixed → Bool
is_closing (Punctuator punct.Semicolon) = true
is_closing (Punctuator punct.CloseParen) = true
is_closing (Punctuator punct.CloseBracket) = true
is_closing (Punctuator punct.Comma) = true
is_closing (Punctuator punct.Colon) = true
is_closing (Punctuator punct.Assign) = true
is_closing (Punctuator punct.AddAssign) = true
is_closing (Punctuator punct.SubtractAssign) = true
is_closing (Punctuator punct.MultiplyAssign) = true
is_closing (Punctuator punct.DivideAssign) = true
is_closing (Punctuator punct.RemainderAssign) = true
is_closing (Punctuator punct.ShiftLeftAssign) = true
is_closing (Punctuator punct.ShiftRightAssign) = true
is_closing (Punctuator punct.AndAssign) = true
is_closing (Punctuator punct.OrAssign) = true
is_closing (Punctuator punct.XorAssign) = true
is_closing (Punctuator punct.Increment) = true
is_closing (Punctuator punct.Decrement) = true
is_closing _ = false

-- a fixed token that an expression does not go on with
abbrev Plain : Fixed → Type 0
Plain k = (op_at operators 1 (Some (a_fixed k)) ≡ None) × (is_fixed (Punctuator punct.OpenBracket) (fixed k) ≡ false) × (is_fixed (Punctuator punct.OpenParen) (fixed k) ≡ false) × (is_fixed (Punctuator punct.Question) (fixed k) ≡ false)

closing_plain : (k : Fixed) → is_closing k ≡ true → Plain k
closing_plain (Punctuator punct.Semicolon) e = (refl, refl, refl, refl)
closing_plain (Punctuator punct.CloseParen) e = (refl, refl, refl, refl)
closing_plain (Punctuator punct.CloseBracket) e = (refl, refl, refl, refl)
closing_plain (Punctuator punct.Comma) e = (refl, refl, refl, refl)
closing_plain (Punctuator punct.Colon) e = (refl, refl, refl, refl)
closing_plain (Punctuator punct.Assign) e = (refl, refl, refl, refl)
closing_plain (Punctuator punct.AddAssign) e = (refl, refl, refl, refl)
closing_plain (Punctuator punct.SubtractAssign) e = (refl, refl, refl, refl)
closing_plain (Punctuator punct.MultiplyAssign) e = (refl, refl, refl, refl)
closing_plain (Punctuator punct.DivideAssign) e = (refl, refl, refl, refl)
closing_plain (Punctuator punct.RemainderAssign) e = (refl, refl, refl, refl)
closing_plain (Punctuator punct.ShiftLeftAssign) e = (refl, refl, refl, refl)
closing_plain (Punctuator punct.ShiftRightAssign) e = (refl, refl, refl, refl)
closing_plain (Punctuator punct.AndAssign) e = (refl, refl, refl, refl)
closing_plain (Punctuator punct.OrAssign) e = (refl, refl, refl, refl)
closing_plain (Punctuator punct.XorAssign) e = (refl, refl, refl, refl)
closing_plain (Punctuator punct.Increment) e = (refl, refl, refl, refl)
closing_plain (Punctuator punct.Decrement) e = (refl, refl, refl, refl)
closing_plain _ e = absurd cc

abbrev op_in : Terminal → Option Infix
op_in k = at_least operators 1 (infix_of (by_fixed binary_of k) (by_fixed logical_of k))

plain_follows : (e : Expr) (t : Tok) (k : Fixed) → t.terminal ≡ fixed k → Plain k → WholeS e (Some t)
plain_follows e t k is plain =
    ((ap op_in is ∙ plain.0, calm_any e (Some t) (ap (is_fixed (Punctuator punct.OpenBracket)) is ∙ plain.1) (ap (is_fixed (Punctuator punct.OpenParen)) is ∙ plain.2)), ap (is_fixed (Punctuator punct.Question)) is ∙ plain.3)

pub closing_follows : (e : Expr) (t : Tok) (k : Fixed) → t.terminal ≡ fixed k → is_closing k ≡ true → WholeS e (Some t)
closing_follows e t k is closing = plain_follows e t k is (closing_plain k closing)

assigning_closes : (k : Fixed) (op : Option BinaryOp) → assigning_of k ≡ Some op → is_closing k ≡ true
assigning_closes (Punctuator punct.Assign) op e = refl
assigning_closes (Punctuator punct.AddAssign) op e = refl
assigning_closes (Punctuator punct.SubtractAssign) op e = refl
assigning_closes (Punctuator punct.MultiplyAssign) op e = refl
assigning_closes (Punctuator punct.DivideAssign) op e = refl
assigning_closes (Punctuator punct.RemainderAssign) op e = refl
assigning_closes (Punctuator punct.ShiftLeftAssign) op e = refl
assigning_closes (Punctuator punct.ShiftRightAssign) op e = refl
assigning_closes (Punctuator punct.AndAssign) op e = refl
assigning_closes (Punctuator punct.OrAssign) op e = refl
assigning_closes (Punctuator punct.XorAssign) op e = refl
assigning_closes _ op e = absurd cc

pub assigning_follows : (e : Expr) (t : Tok) (op : Option BinaryOp) → the_assigning t ≡ Some op → WholeS e (Some t)
assigning_follows e t op has = go t.terminal refl has
  where
    go : (k : Terminal) → t.terminal ≡ k → by_fixed assigning_of k ≡ Some op → WholeS e (Some t)
    go (name s) is h = absurd cc
    go (constant n ty) is h = absurd cc
    go (string_literal s) is h = absurd cc
    go (fixed k) is h = closing_follows e t k is (assigning_closes k op h)
    go reserved is h = absurd cc

step_closes : (k : Fixed) (by : IncDec) → step_of k ≡ Some by → is_closing k ≡ true
step_closes (Punctuator punct.Increment) by e = refl
step_closes (Punctuator punct.Decrement) by e = refl
step_closes _ by e = absurd cc

pub step_follows : (e : Expr) (t : Tok) (by : IncDec) → the_step t ≡ Some by → WholeS e (Some t)
step_follows e t by has = go t.terminal refl has
  where
    go : (k : Terminal) → t.terminal ≡ k → by_fixed step_of k ≡ Some by → WholeS e (Some t)
    go (name s) is h = absurd cc
    go (constant n ty) is h = absurd cc
    go (string_literal s) is h = absurd cc
    go (fixed k) is h = closing_follows e t k is (step_closes k by h)
    go reserved is h = absurd cc

-- ---- first tokens

name_kind : (k : Terminal) (at : Span) (x : Name) → name_in k at ≡ Some x → operand_terminal k ≡ kind.Name
name_kind (name s) at x h = refl
name_kind k at x h = absurd cc

number_kind : (k : Terminal) (at : Span) (x : IntegerConstant) → integer_constant_in k at ≡ Some x → operand_terminal k ≡ kind.Constant
number_kind (constant n t) at x h = refl
number_kind k at x h = absurd cc

unary_kind : (k : Terminal) (op : UnaryOp) → by_fixed unary_of k ≡ Some op → operand_terminal k ≡ kind.Prefix
unary_kind (fixed k) op h = fixed_kind k h
  where
    fixed_kind : (k : Fixed) → unary_of k ≡ Some op → operand_terminal (fixed k) ≡ kind.Prefix
    fixed_kind (Punctuator punct.Minus) h = refl
    fixed_kind (Punctuator punct.Plus) h = refl
    fixed_kind (Punctuator punct.Not) h = refl
    fixed_kind (Punctuator punct.Complement) h = refl
    fixed_kind _ h = absurd cc
unary_kind k op h = absurd cc

open_kind : (t : Tok) (x : Unit {0}) → the_fixed (Punctuator punct.OpenParen) t ≡ Some x → operand_terminal t.terminal ≡ kind.Open
open_kind t x h = ap operand_terminal (fixed_is (Punctuator punct.OpenParen) t x h)

pub mode_kind : (mode : Mode) → operand_terminal (fixed (mode_keyword mode)) ≡ kind.Transaction mode
mode_kind Atomic = refl
mode_kind Relaxed = refl

-- the kind of operand that an expression begins with
abbrev pub lead_kind : Expr → Operand
lead_kind (Variable x) = kind.Name
lead_kind (Constant n t at) = kind.Constant
lead_kind (Element x i at) = kind.Name
lead_kind (Call f es at) = kind.Name
lead_kind (Parenthesized e at) = kind.Open
lead_kind (Cast t e at) = kind.Open
lead_kind (Unary op e at) = kind.Prefix
lead_kind (Binary op a b at) = lead_kind a
lead_kind (Logical op a b at) = lead_kind a
lead_kind (Conditional c a b at) = lead_kind c
lead_kind (InTransaction mode keyword e at) = kind.Transaction mode

lead_some : (e : Expr) → is_operand (lead_kind e) ≡ true
lead_some (Binary op a b at) = lead_some a
lead_some (Logical op a b at) = lead_some a
lead_some (Conditional c a b at) = lead_some c
lead_some e = refl

pub seq_heads : {L M : Phrase} {p : List Tok} (s : Seq L M p) (q : List Tok) → head (p ++ q) ≡ head (s.front ++ (s.back ++ q))
seq_heads s q = ap head (ap (λ (z : List Tok). z ++ q) s.whole ∙ append_assoc s.front s.back q)

pub first_kind : (e : Expr) (p q : List Tok) → expr e p → operand_at (head (p ++ q)) ≡ lead_kind e
first_kind (Variable x) p q l = ap operand_at (one_head l q) ∙ name_kind l.token.terminal l.token.span x l.has
first_kind (Constant n t at) p q l = ap operand_at (one_head l q) ∙ number_kind l.token.terminal l.token.span (record { value = n; ty = t; span = at }) l.has
first_kind (Element x i at) p q l = let o = l.1.first in ap operand_at (seq_head l.1 q) ∙ name_kind o.token.terminal o.token.span x o.has
first_kind (Call f es at) p q l = let o = l.1.first in ap operand_at (seq_head l.1 q) ∙ name_kind o.token.terminal o.token.span f o.has
first_kind (Parenthesized e at) p q l = ap operand_at (seq_head l.1 q) ∙ open_kind l.1.first.token tt l.1.first.has
first_kind (Cast t e at) p q l = ap operand_at (seq_head l.1.1 q) ∙ open_kind l.1.1.first.token tt l.1.1.first.has
first_kind (Unary op e at) p q l = let o = l.1.1.first in ap operand_at (seq_head l.1.1 q) ∙ unary_kind o.token.terminal op o.has
first_kind (Binary op a b at) p q l = let s = l.1.1 in ap operand_at (seq_heads s q) ∙ first_kind a s.front (s.back ++ q) s.first
first_kind (Logical op a b at) p q l = let s = l.1.1 in ap operand_at (seq_heads s q) ∙ first_kind a s.front (s.back ++ q) s.first
first_kind (Conditional c a b at) p q l = let s = l.1.1 in ap operand_at (seq_heads s q) ∙ first_kind c s.front (s.back ++ q) s.first
first_kind (InTransaction mode keyword e at) p q l =
    let t = l.1.first.token in
    ap operand_at (seq_head l.1 q) ∙ ap operand_terminal (fixed_is (mode_keyword mode) t tt (span_is_fixed (mode_keyword mode) t keyword l.1.first.has).0) ∙ mode_kind mode

pub whole_first : (e : Expr) (p q : List Tok) → expr e p → starts_expr (head (p ++ q)) ≡ true
whole_first e p q l = ap is_operand (first_kind e p q l) ∙ lead_some e

-- what an expression begins with is not a fixed token that begins none
pub start_not_fixed : (k : Fixed) (h : Option Tok) → is_operand (operand_terminal (fixed k)) ≡ false → starts_expr h ≡ true → is_next k h ≡ false
start_not_fixed k None apart e = refl
start_not_fixed k (Some t) apart e = go (is_fixed k t.terminal) refl
  where
    go : (b : Bool) → is_fixed k t.terminal ≡ b → is_fixed k t.terminal ≡ false
    go false is = is
    go true is = absurd (let n : starts_expr (Some t) ≡ false = ap (λ (z : Terminal). is_operand (operand_terminal z)) (that_fixed k t is) ∙ apart in cc)

pub not_fixed : (k : Fixed) → is_operand (operand_terminal (fixed k)) ≡ false → (e : Expr) (p q : List Tok) → expr e p → is_next k (head (p ++ q)) ≡ false
not_fixed k apart e p q l = start_not_fixed k (head (p ++ q)) apart (whole_first e p q l)

-- what begins a type or a step begins no expression
pub start_not_type : (h : Option Tok) → starts_expr h ≡ true → starts_type h ≡ false
start_not_type None e = refl
start_not_type (Some t) e = go t.terminal e
  where
    at_fixed : (k : Fixed) → is_operand (operand_terminal (fixed k)) ≡ true → is_some (type_of_fixed k) ≡ false
    at_fixed (Keyword key.Int) e = absurd cc
    at_fixed (Keyword key.Signed) e = absurd cc
    at_fixed (Keyword key.Unsigned) e = absurd cc
    at_fixed (Keyword key.Long) e = absurd cc
    at_fixed _ e = refl

    go : (k : Terminal) → is_operand (operand_terminal k) ≡ true → is_some (by_fixed type_of_fixed k) ≡ false
    go (name s) e = refl
    go (constant n t) e = refl
    go (string_literal s) e = refl
    go (fixed k) e = at_fixed k e
    go reserved e = refl

pub start_not_step : (h : Option Tok) → starts_expr h ≡ true → says the_step h ≡ false
start_not_step None e = refl
start_not_step (Some t) e = go t.terminal e
  where
    at_fixed : (k : Fixed) → is_operand (operand_terminal (fixed k)) ≡ true → is_some (step_of k) ≡ false
    at_fixed (Punctuator punct.Increment) e = absurd cc
    at_fixed (Punctuator punct.Decrement) e = absurd cc
    at_fixed _ e = refl

    go : (k : Terminal) → is_operand (operand_terminal k) ≡ true → is_some (by_fixed step_of k) ≡ false
    go (name s) e = refl
    go (constant n t) e = refl
    go (string_literal s) e = refl
    go (fixed k) e = at_fixed k e
    go reserved e = refl

-- ---- depths and spans

pub positive : (e : Expr) → 1 ≤ expr_depth e
positive (Variable x) = omega arith
positive e = omega arith

name_has_span : (k : Terminal) (at : Span) (x : Name) → name_in k at ≡ Some x → x.span ≡ at
name_has_span (name s) at x h = let same : record { text = s; span = at } ≡ x = cc in ap (λ (z : Name). z.span) (sym same)
name_has_span k at x h = absurd cc

constant_has_span : (k : Terminal) (at : Span) (x : IntegerConstant) → integer_constant_in k at ≡ Some x → x.span ≡ at
constant_has_span (constant n t) at x h = let same : record { value = n; ty = t; span = at } ≡ x = cc in ap (λ (z : IntegerConstant). z.span) (sym same)
constant_has_span k at x h = absurd cc

-- a name stands where its token does
pub name_covers : (x : Name) (p : List Tok) → One the_name x p → Covers x.span p
name_covers x p l = subst (Covers x.span) (sym l.whole) (name_has_span l.token.terminal l.token.span x l.has)

-- an expression stands where its tokens do
pub expr_covers : (e : Expr) (p : List Tok) → expr e p → Covers (span_of e) p
expr_covers (Variable x) p l = name_covers x p l
expr_covers (Constant n t at) p l = subst (Covers at) (sym l.whole) (constant_has_span l.token.terminal l.token.span (record { value = n; ty = t; span = at }) l.has)
expr_covers (Element x i at) p l = l.0
expr_covers (Call f es at) p l = l.0
expr_covers (Parenthesized e at) p l = l.0
expr_covers (InTransaction mode keyword e at) p l = l.0
expr_covers e p l = l.1.0

-- ---- what goes on

-- operands, which no operator splits
abbrev pub TightL : Expr → Phrase
TightL e p = expr e p × (11 ≤ level e)

abbrev pub name_tight : Begins TightL []
name_tight = record { value = Variable some_name; more = some_name_token ∷ []; spelled = (record { token = some_name_token; has = refl; whole = refl }, lit≤ tt) }

abbrev pub whole_begins : Begins expr []
whole_begins = record { value = name_tight.value; more = name_tight.more; spelled = name_tight.spelled.0 }

-- a transaction's keyword and `(` go on to an operand
pub transaction_begins : (mode : Mode) (t u : Tok) → t.terminal ≡ fixed (mode_keyword mode) → u.terminal ≡ fixed (Punctuator punct.OpenParen) → Begins TightL (t ∷ u ∷ [])
transaction_begins mode t u is paren =
    let close : Tok = a_fixed (Punctuator punct.CloseParen) in
    record {
      value = InTransaction mode t.span (Variable some_name) (record { start = t.span.start; «end» = 0 });
      more = some_name_token ∷ close ∷ [];
      spelled = (
        (
          refl,
          record {
            front = t ∷ [];
            back = u ∷ some_name_token ∷ close ∷ [];
            first = record { token = t; has = fixed_has_span (mode_keyword mode) t (fixed_has (mode_keyword mode) t is); whole = refl };
            second = record {
              front = u ∷ [];
              back = some_name_token ∷ close ∷ [];
              first = record { token = u; has = fixed_has (Punctuator punct.OpenParen) u paren; whole = refl };
              second = record { front = some_name_token ∷ []; back = close ∷ []; first = record { token = some_name_token; has = refl; whole = refl }; second = record { token = close; has = fixed_has (Punctuator punct.CloseParen) close refl; whole = refl }; whole = refl };
              whole = refl;
            };
            whole = refl;
          },
        ),
        lit≤ tt,
      );
    }

-- each first token goes on to an operand
pub tight_begins : (t : Tok) → starts_expr (Some t) ≡ true → Begins TightL (t ∷ [])
tight_begins t e = go t.terminal refl e
  where
    prefixed : (op : UnaryOp) → the_unary t ≡ Some op → Begins TightL (t ∷ [])
    prefixed op has =
        let at : Span = record { start = t.span.start; «end» = 0 } in
        record {
          value = Unary op (Variable some_name) at;
          more = some_name_token ∷ [];
          spelled = ((lit≤ tt, (refl, record { front = t ∷ []; back = some_name_token ∷ []; first = record { token = t; has = has; whole = refl }; second = record { token = some_name_token; has = refl; whole = refl }; whole = refl })), lit≤ tt);
        }

    opened : t.terminal ≡ fixed (Punctuator punct.OpenParen) → Begins TightL (t ∷ [])
    opened is =
        let close : Tok = a_fixed (Punctuator punct.CloseParen) in
        record {
          value = Parenthesized (Variable some_name) (record { start = t.span.start; «end» = 0 });
          more = some_name_token ∷ close ∷ [];
          spelled = (
            (
              refl,
              record {
                front = t ∷ [];
                back = some_name_token ∷ close ∷ [];
                first = record { token = t; has = fixed_has (Punctuator punct.OpenParen) t is; whole = refl };
                second = record { front = some_name_token ∷ []; back = close ∷ []; first = record { token = some_name_token; has = refl; whole = refl }; second = record { token = close; has = fixed_has (Punctuator punct.CloseParen) close refl; whole = refl }; whole = refl };
                whole = refl;
              },
            ),
            lit≤ tt,
          );
        }

    in_transaction : (mode : Mode) → t.terminal ≡ fixed (mode_keyword mode) → Begins TightL (t ∷ [])
    in_transaction mode is =
        let opening : Tok = a_fixed (Punctuator punct.OpenParen) in
        let b = transaction_begins mode t opening is refl in
        record { value = b.value; more = opening ∷ b.more; spelled = b.spelled }

    at_fixed : (k : Fixed) → t.terminal ≡ fixed k → is_operand (operand_terminal (fixed k)) ≡ true → Begins TightL (t ∷ [])
    at_fixed (Keyword key.Atomic) is e = in_transaction Atomic is
    at_fixed (Keyword key.Relaxed) is e = in_transaction Relaxed is
    at_fixed (Punctuator punct.OpenParen) is e = opened is
    at_fixed (Punctuator punct.Minus) is e = prefixed _ (ap (by_fixed unary_of) is)
    at_fixed (Punctuator punct.Plus) is e = prefixed _ (ap (by_fixed unary_of) is)
    at_fixed (Punctuator punct.Not) is e = prefixed _ (ap (by_fixed unary_of) is)
    at_fixed (Punctuator punct.Complement) is e = prefixed _ (ap (by_fixed unary_of) is)
    at_fixed _ is e = absurd cc

    go : (k : Terminal) → t.terminal ≡ k → is_operand (operand_terminal k) ≡ true → Begins TightL (t ∷ [])
    go (name s) is e = record { value = Variable (record { text = s; span = t.span }); more = []; spelled = (record { token = t; has = ap (λ (k : Terminal). name_in k t.span) is; whole = refl }, lit≤ tt) }
    go (constant n ty) is e = record { value = Constant n ty t.span; more = []; spelled = (record { token = t; has = ap (λ (k : Terminal). integer_constant_in k t.span) is; whole = refl }, lit≤ tt) }
    go (string_literal s) is e = absurd cc
    go (fixed k) is e = at_fixed k is e
    go reserved is e = absurd cc

pub starts_begins : (t : Tok) → starts_expr (Some t) ≡ true → Begins expr (t ∷ [])
starts_begins t e = let b = tight_begins t e in record { value = b.value; more = b.more; spelled = b.spelled.0 }
