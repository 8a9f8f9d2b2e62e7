-- Operands are read exactly, where the expressions in them are.
use Rattle.std.proofs.Common.{◌≡◌, ℕ, suc, ◌+◌, ◌≤◌, true, false, not, max, List, [], ◌∷◌, ◌++◌, Option, Some, None, refl, sym, ap, subst, ◌∙◌, append_assoc, arith, ◌⊎◌, inl, inr, lit≤}
use Rattle.std.proofs.lemmas.List.{append-nil}
use Rattle.lex.specs.declared.token.Fixed.{Fixed}
use Rattle.lex.specs.declared.token.Fixed.TheVariants.{Punctuator}
use Rattle.lex.specs.declared.token.Punctuator.TheVariants as punct
use Rattle.lex.specs.declared.token.Scalar.{Scalar}
use Rattle.lex.specs.declared.token.Span.{Span}
use Rattle.lex.specs.Tokens.{Terminal, name, constant, string_literal, fixed, reserved, Tok}
use Rattle.syntax.specs.declared.tree.BinaryOp.{BinaryOp}
use Rattle.syntax.specs.declared.tree.BinaryOp.TheVariants.{Or, Xor, And, Equal, NotEqual, Less, Greater, LessEqual, GreaterEqual, ShiftLeft, ShiftRight, Add, Subtract, Multiply, Divide, Remainder}
use Rattle.syntax.specs.declared.tree.LogicalOp.{LogicalOp}
use Rattle.syntax.specs.declared.tree.LogicalOp.TheVariants.{AndThen, OrElse}
use Rattle.syntax.specs.declared.tree.UnaryOp.{UnaryOp}
use Rattle.syntax.specs.declared.tree.Mode.{Mode}
use Rattle.syntax.specs.Tree as Tree
use Rattle.syntax.specs.Tree.{Name, Expr, Exprs, Variable, Constant, Element, Call, Parenthesized, Cast, Unary, Binary, Logical, Conditional, InTransaction}
use Rattle.syntax.specs.Depth.{expr_depth, deepest}
use Rattle.syntax.specs.Typing.{span_of}
use Rattle.syntax.specs.Views.{exprs_from}
use Rattle.syntax.specs.Phrases.{Phrase, Seq, One, Is, Many, Listed, Begins, Covers, fixed_span}
use Rattle.syntax.specs.Grammar.{IntegerConstant, integer_constant_in, the_name, the_unary, precedence, logical_precedence, mode_keyword, expr, further}
use Rattle.syntax.specs.Grammar as Grammar
use Rattle.parse.specs.declared.lead.Infix.{Infix}
use Rattle.parse.specs.declared.lead.Infix.TheVariants.{Computing, Choosing}
use Rattle.parse.specs.declared.lead.Operand.{Operand}
use Rattle.parse.specs.declared.lead.Operand.TheVariants as kind
use Rattle.parse.specs.inner.Reading.{Parser, head, give, map_parser, either, take, is_next, is_other, at_least, op_at, across}
use Rattle.parse.specs.inner.Expressions.{starts_type, the_infix, operators, with_span, the_prefix, constant_in, the_constant, prefix_expr, cast_from, group_from, cast_or_group_expr, transaction, arguments, element_from, call_from, named_from, name_or_call, operand_of, operand_at, operand}
use Rattle.parse.proofs.combinators.Exact.{Exact, Always, Nothing, Comes, Two, Dep, Empty, take_exact, give_exact, none_exact, chained_one, two, value_of, restated}
use Rattle.parse.proofs.combinators.Many.{ManyFit}
use Rattle.parse.proofs.combinators.FixedTokens.{that_fixed, fixed_is, fixed_has, a_fixed, one_head}
use Rattle.parse.proofs.code.Ends.{covers_across, covers_one}
use Rattle.parse.proofs.combinators.Parts.{seq_left, seq_right, is_here, seq_here, seq_not_here, fixed_has_span, span_is_fixed, head_begins, behind_exact, before_exact}
use Rattle.parse.proofs.combinators.Choices.{kinds_exact, either_exact}
use Rattle.parse.proofs.combinators.Lists.{Behind, listed_exact}
use Rattle.parse.proofs.expressions.Scalars.{fixed_differs, fixed_ends, scalar_exact, scalar_first}
use Rattle.parse.proofs.expressions.Wholes.{Calm, WholeS, closing_follows, lead_kind, seq_heads, first_kind, whole_first, not_fixed, start_not_type, name_covers, expr_covers, TightL, name_tight, whole_begins}

-- ---- values that a parser's are changed to

abbrev pub Image : {A B : Type 0} → (A → B) → (A → Phrase) → B → Phrase
Image {A = A} f L y p = (x : A) × (y ≡ f x) × L x p

pub imaged : {A B : Type 0} (f : A → B) {P : ℕ → Parser A} {L : A → List Tok → Type 0} {W : ℕ → A → Type 0} (W' : ℕ → B → Type 0) {S C : A → Option Tok → Type 0} (S' C' : B → Option Tok → Type 0) {d : ℕ}
    → Exact P L W S C d
    → ((x : A) → W' d (f x) → W d x)
    → ((x : A) → W d x → W' d (f x))
    → ((x : A) (h : Option Tok) → S' (f x) h → S x h)
    → ((x : A) (h : Option Tok) → C x h → C' (f x) h)
    → Exact (λ D. map_parser f (P D)) (Image f L) W' S' C' d
imaged {A = A} {B = B} f {L = L} {W = W} W' {S = S} S' C' {d = d} E w_from w_to s_from c_to =
    value_of f (Image f L) W' S' C' E comes (λ x p l. (x, refl, l)) w_to c_to
  where
    comes : (y : B) (p : List Tok) → Image f L y p → Comes f L (W d) (W' d) S S' y p
    comes y p i = record {
      value = i.0;
      same = i.1;
      spelled = i.2;
      within = λ w. w_from i.0 (subst (W' d) i.1 w);
      stops = λ h s. s_from i.0 h (subst (λ (z : B). S' z h) i.1 s);
    }

-- ---- spans

-- from the first part to the last
pub span_is : (at a b : Span) (p pa mid pb : List Tok) → p ≡ pa ++ (mid ++ pb) → Covers at p → Covers a pa → Covers b pb → at ≡ across a b
span_is at a b p pa mid pb e c ca cb = covers_one at (across a b) (pa ++ (mid ++ pb)) (subst (Covers at) e c) (covers_across a b pa mid pb ca cb)

pub span_covers : (a b : Span) (p pa mid pb : List Tok) → p ≡ pa ++ (mid ++ pb) → Covers a pa → Covers b pb → Covers (across a b) p
span_covers a b p pa mid pb e ca cb = subst (Covers (across a b)) (sym e) (covers_across a b pa mid pb ca cb)

-- one token stands in its place
one_covers : {A : Type 0} {f : Tok → Option A} {x : A} {p : List Tok} (o : One f x p) → Covers o.token.span p
one_covers o = subst (Covers o.token.span) (sym o.whole) refl

abbrev Spot : Fixed → Span → Phrase
Spot k = One (fixed_span k)

expect_span_of : (k : Fixed) {p : List Tok} (o : Is k p) → Spot k o.token.span p
expect_span_of k o = record { token = o.token; has = fixed_has_span k o.token o.has; whole = o.whole }

expect_span_is : (k : Fixed) (at : Span) (p : List Tok) → Spot k at p → Is k p
expect_span_is k at p o = record { token = o.token; has = (span_is_fixed k o.token at o.has).0; whole = o.whole }

expect_span_covers : (k : Fixed) (at : Span) (p : List Tok) → Spot k at p → Covers at p
expect_span_covers k at p o = subst (λ (z : Span). Covers z p) (span_is_fixed k o.token at o.has).1 (one_covers o)

abbrev expect_span_begins : (k : Fixed) → Begins (Spot k) []
expect_span_begins k = record { value = (a_fixed k).span; more = a_fixed k ∷ []; spelled = record { token = a_fixed k; has = fixed_has_span k (a_fixed k) (fixed_has k (a_fixed k) refl); whole = refl } }

-- ---- what the depth allows and what may follow

abbrev pub Fits : ℕ → Expr → Type 0
Fits D e = expr_depth e ≤ D

abbrev pub Deeper : ℕ → Expr → Type 0
Deeper D e = expr_depth e ≤ suc D

-- no operator binds so tightly as operands do
abbrev pub TightS : Expr → Option Tok → Type 0
TightS e h = (op_at operators 11 h ≡ None) × Calm e h

infix_low : (op : Infix) → at_least operators 11 (Some op) ≡ None
infix_low (Computing op) = go op
  where
    go : (op : BinaryOp) → at_least operators 11 (Some (Computing op)) ≡ None
    go Or = refl
    go Xor = refl
    go And = refl
    go Equal = refl
    go NotEqual = refl
    go Less = refl
    go Greater = refl
    go LessEqual = refl
    go GreaterEqual = refl
    go ShiftLeft = refl
    go ShiftRight = refl
    go Add = refl
    go Subtract = refl
    go Multiply = refl
    go Divide = refl
    go Remainder = refl
infix_low (Choosing op) = go op
  where
    go : (op : LogicalOp) → at_least operators 11 (Some (Choosing op)) ≡ None
    go AndThen = refl
    go OrElse = refl

pub none_tight : (h : Option Tok) → op_at operators 11 h ≡ None
none_tight None = refl
none_tight (Some t) = go (the_infix t) refl
  where
    go : (o : Option Infix) → the_infix t ≡ o → at_least operators 11 o ≡ None
    go None is = refl
    go (Some op) is = infix_low op

closes_with : (k : Fixed) → (e : Expr) (c : Span) (p q : List Tok) → Spot k c p → ((t : Tok) → t.terminal ≡ fixed k → WholeS e (Some t)) → WholeS e (head (p ++ q))
closes_with k e c p q o follows = subst (WholeS e) (sym (one_head o q)) (follows o.token (fixed_is k o.token tt (span_is_fixed k o.token c o.has).0))

-- ---- a list of arguments

args_from : (es : List Expr) (p : List Tok) → Many (Behind expr) es p → further (exprs_from es) p
args_from [] p l = l
args_from (e ∷ es) p s = seq_right (record { front = s.front; back = s.back; first = s.first; second = args_from es s.back s.second; whole = s.whole })

args_to : (es : List Expr) (p : List Tok) → further (exprs_from es) p → Many (Behind expr) es p
args_to [] p l = l
args_to (e ∷ es) p l = let s = seq_left l in record { front = s.front; back = s.back; first = s.first; second = args_to es s.back s.second; whole = s.whole }

abbrev ArgsL : List Expr → Phrase
ArgsL es p = Empty [] es p ⊎ Listed expr es p

arguments_goes : (es : List Expr) (p : List Tok) → ArgsL es p → Grammar.arguments (exprs_from es) p
arguments_goes es p (inl l) = rw l.0 l.1
arguments_goes [] p (inr l) = absurd l
arguments_goes (e ∷ es) p (inr s) = record { front = s.front; back = s.back; first = s.first; second = args_from es s.back s.second; whole = s.whole }

arguments_comes : (es : List Expr) (p : List Tok) → Grammar.arguments (exprs_from es) p → ArgsL es p
arguments_comes [] p l = inl (refl, l)
arguments_comes (e ∷ es) p s = inr (record { front = s.front; back = s.back; first = s.first; second = args_to es s.back s.second; whole = s.whole })

pub exprs_list : Exprs → List Expr
exprs_list Tree.[] = []
exprs_list (Tree.◌∷◌ e es) = e ∷ exprs_list es

pub list_exprs : (es : Exprs) → es ≡ exprs_from (exprs_list es)
unfolding exprs_list
list_exprs Tree.[] = refl
list_exprs (Tree.◌∷◌ e es) = ap (Tree.◌∷◌ e) (list_exprs es)

pub fit_deepest : (d : ℕ) (es : List Expr) → ManyFit Fits d es → deepest (exprs_from es) ≤ d
fit_deepest d [] w = omega arith
fit_deepest d (e ∷ es) w = let a : expr_depth e ≤ d = w.0 in let b = fit_deepest d es w.1 in omega arith

pub deepest_fit : (d : ℕ) (es : List Expr) → deepest (exprs_from es) ≤ d → ManyFit Fits d es
deepest_fit d [] w = tt
deepest_fit d (e ∷ es) w = let both : max (expr_depth e) (deepest (exprs_from es)) ≤ d = w in (omega arith, deepest_fit d es (omega arith))

-- ---- languages by the kind of operand

abbrev pub NamedL : Expr → Phrase
NamedL (Variable x) p = expr (Variable x) p
NamedL (Element x i at) p = expr (Element x i at) p
NamedL (Call f es at) p = expr (Call f es at) p
NamedL _ p = ⊥

abbrev pub ConstantL : Expr → Phrase
ConstantL (Constant n t at) p = expr (Constant n t at) p
ConstantL _ p = ⊥

abbrev pub OpenL : Expr → Phrase
OpenL (Parenthesized e at) p = expr (Parenthesized e at) p
OpenL (Cast t e at) p = expr (Cast t e at) p
OpenL _ p = ⊥

abbrev pub PrefixL : Expr → Phrase
PrefixL (Unary op e at) p = expr (Unary op e at) p
PrefixL _ p = ⊥

abbrev pub TransactionL : Mode → Expr → Phrase
TransactionL mode (InTransaction of keyword e at) p = (of ≡ mode) × expr (InTransaction of keyword e at) p
TransactionL mode _ p = ⊥

abbrev pub KindL : Operand → Expr → Phrase
KindL kind.Name = NamedL
KindL kind.Constant = ConstantL
KindL kind.Open = OpenL
KindL kind.Prefix = PrefixL
KindL (kind.Transaction mode) = TransactionL mode
KindL kind.None = Nothing

-- ---- constants

constant_goes : (e : Expr) (p : List Tok) → One the_constant e p → ConstantL e p
constant_goes e p o = go o.token.terminal refl o.has
  where
    go : (k : Terminal) → o.token.terminal ≡ k → constant_in k o.token.span ≡ Some e → ConstantL e p
    go (name s) is h = absurd cc
    go (constant n t) is h =
        let same : Constant n t o.token.span ≡ e = cc in
        subst (λ (z : Expr). ConstantL z p) same (record { token = o.token; has = ap (λ (k : Terminal). integer_constant_in k o.token.span) is; whole = o.whole })
    go (string_literal s) is h = absurd cc
    go (fixed k) is h = absurd cc
    go reserved is h = absurd cc

constant_is : (k : Terminal) (at : Span) (n : ℕ) (t : Scalar) (v : Span) → integer_constant_in k at ≡ Some (record { value = n; ty = t; span = v }) → constant_in k at ≡ Some (Constant n t v)
constant_is (constant i u) at n t v h =
    let same : ◌≡◌ {A = IntegerConstant} (record { value = i; ty = u; span = at }) (record { value = n; ty = t; span = v }) = cc in
    ap (λ (z : IntegerConstant). Some (Constant z.value z.ty z.span)) same
constant_is k at n t v h = absurd cc

constant_comes : (e : Expr) (p : List Tok) → ConstantL e p → One the_constant e p
constant_comes (Constant n t at) p o = record { token = o.token; has = constant_is o.token.terminal o.token.span n t at o.has; whole = o.whole }
constant_comes _ p l = absurd l

constant_flat : (d : ℕ) (e : Expr) (p : List Tok) → ConstantL e p → Deeper d e
constant_flat d (Constant n t at) p l = omega arith
constant_flat d _ p l = absurd l

constant_calm : (e : Expr) (p : List Tok) (h : Option Tok) → ConstantL e p → Calm e h
constant_calm (Constant n t at) p h l = tt
constant_calm _ p h l = absurd l

constant_exact : (d : ℕ) → Exact (λ D. take the_constant) ConstantL Deeper Calm Calm d
constant_exact d =
    restated ConstantL Deeper Calm Calm (take_exact the_constant d) constant_goes constant_comes
    (λ x p l w. constant_flat d x p (constant_goes x p l)) (λ x p l w. tt) (λ x p h l s. tt) (λ x p h l c. constant_calm x p h (constant_goes x p l))

-- ---- operators before their operand

placed_is : (at : Span) (o : Option UnaryOp) (op : UnaryOp) (v : Span) → with_span at o ≡ Some (op, v) → (o ≡ Some op) × (at ≡ v)
placed_is at None op v h = absurd cc
placed_is at (Some x) op v h = let same : ◌≡◌ {A = UnaryOp × Span} (x, at) (op, v) = cc in (ap (λ (z : UnaryOp × Span). Some z.0) same, ap (λ (z : UnaryOp × Span). z.1) same)

abbrev prefix_tree : (UnaryOp × Span) × Expr → Expr
prefix_tree x = Unary x.0.0 x.1 (across x.0.1 (span_of x.1))

prefix_goes : (e : Expr) (p : List Tok) → Image prefix_tree (Two (One the_prefix) TightL) e p → PrefixL e p
prefix_goes e p (x, same, s) =
    let o = s.first in
    let is = placed_is o.token.span (the_unary o.token) x.0.0 x.0.1 o.has in
    let here : Covers x.0.1 s.front = subst (λ (z : Span). Covers z s.front) is.1 (one_covers o) in
    subst (λ (z : Expr). PrefixL z p) (sym same) (
      s.second.1,
      (
        span_covers x.0.1 (span_of x.1) p s.front [] s.back s.whole here (expr_covers x.1 s.back s.second.0),
        record { front = s.front; back = s.back; first = record { token = o.token; has = is.0; whole = o.whole }; second = s.second.0; whole = s.whole },
      ),
    )

prefix_comes : (e : Expr) (p : List Tok) → PrefixL e p → Image prefix_tree (Two (One the_prefix) TightL) e p
prefix_comes (Unary op e at) p l =
    let s = l.1.1 in
    let o = s.first in (
      ((op, o.token.span), e),
      ap (Unary op e) (span_is at o.token.span (span_of e) p s.front [] s.back s.whole l.1.0 (one_covers o) (expr_covers e s.back s.second)),
      record { front = s.front; back = s.back; first = record { token = o.token; has = ap (with_span o.token.span) o.has; whole = o.whole }; second = (s.second, l.0); whole = s.whole },
    )
prefix_comes _ p l = absurd l

-- whole: any expression; tight: an operand
module _ (whole tight : ℕ → Parser Expr) (d : ℕ) (EW : Exact whole expr Fits WholeS WholeS d) (ET : Exact tight TightL Fits TightS TightS d) where
  prefix_exact : Exact (λ D. prefix_expr (whole D) (tight D)) PrefixL Deeper Calm Calm d
  prefix_exact =
      restated PrefixL Deeper Calm Calm
      (imaged prefix_tree Deeper Calm Calm (two (take_exact the_prefix d) ET (λ a b p q l h. tt) name_tight) (λ x w. (tt, deeper x.1 w)) (λ x w. fitting x.1 w.1) (λ x h s. (none_tight h, s)) (λ x h c. c.1))
      prefix_goes prefix_comes (λ x p l w. w) (λ x p l w. w) (λ x p h l s. s) (λ x p h l c. c)
    where
      deeper : (e : Expr) → expr_depth e + 1 ≤ suc d → expr_depth e ≤ d
      deeper e w = omega arith

      fitting : (e : Expr) → expr_depth e ≤ d → expr_depth e + 1 ≤ suc d
      fitting e w = omega arith

  -- ---- behind a transaction's keyword

  abbrev ValueP : Mode → Span × (Expr × Span) → Expr
  ValueP mode x = InTransaction mode x.0 x.1.0 (across x.0 x.1.1)

  abbrev ValueL : Mode → Span × (Expr × Span) → Phrase
  ValueL mode = Two (Spot (mode_keyword mode)) (Two (λ e. Seq (Is (Punctuator punct.OpenParen)) (expr e)) (Spot (Punctuator punct.CloseParen)))

  value_begins : Begins (Two (λ e. Seq (Is (Punctuator punct.OpenParen)) (expr e)) (Spot (Punctuator punct.CloseParen))) []
  value_begins =
      let w = head_begins (Punctuator punct.OpenParen) expr whole_begins in
      let c = expect_span_begins (Punctuator punct.CloseParen) in
      record { value = (w.value, c.value); more = w.more ++ c.more; spelled = record { front = w.more; back = c.more; first = w.spelled; second = c.spelled; whole = refl } }

  value_goes : (mode : Mode) (e : Expr) (p : List Tok) → Image (ValueP mode) (ValueL mode) e p → TransactionL mode e p
  value_goes mode e p (x, same, s) =
      let i = s.second in
      let parts : p ≡ s.front ++ (i.front ++ i.back) = s.whole ∙ ap (λ (z : List Tok). s.front ++ z) i.whole in
      subst (λ (z : Expr). TransactionL mode z p) (sym same) (
        refl,
        (
          span_covers x.0 x.1.1 p s.front i.front i.back parts (expect_span_covers (mode_keyword mode) x.0 s.front s.first) (expect_span_covers (Punctuator punct.CloseParen) x.1.1 i.back i.second),
          record { front = s.front; back = s.back; first = s.first; second = seq_right (record { front = i.front; back = i.back; first = i.first; second = expect_span_is (Punctuator punct.CloseParen) x.1.1 i.back i.second; whole = i.whole }); whole = s.whole },
        ),
      )

  value_comes : (mode : Mode) (e : Expr) (p : List Tok) → TransactionL mode e p → Image (ValueP mode) (ValueL mode) e p
  value_comes mode (InTransaction of keyword e at) p l =
      let s = l.1.1 in
      let i = seq_left s.second in
      let c = i.second.token.span in
      let parts : p ≡ s.front ++ (i.front ++ i.back) = s.whole ∙ ap (λ (z : List Tok). s.front ++ z) i.whole in (
        (keyword, (e, c)),
        ap (λ (z : Mode). InTransaction z keyword e at) l.0
            ∙ ap (InTransaction mode keyword e) (span_is at keyword c p s.front i.front i.back parts l.1.0 (expect_span_covers (mode_keyword of) keyword s.front s.first) (one_covers i.second)),
        record { front = s.front; back = s.back; first = subst (λ (z : Mode). Spot (mode_keyword z) keyword s.front) l.0 s.first; second = record { front = i.front; back = i.back; first = i.first; second = expect_span_of (Punctuator punct.CloseParen) i.second; whole = i.whole }; whole = s.whole },
      )
  value_comes mode _ p l = absurd l

  transaction_exact : (mode : Mode) → Exact (λ D. transaction (whole D) (tight D) mode) (TransactionL mode) Deeper Calm Calm d
  transaction_exact mode =
      restated (TransactionL mode) Deeper Calm Calm
      (imaged (ValueP mode) Deeper Calm Calm
      (two (take_exact (fixed_span (mode_keyword mode)) d)
      (two (behind_exact (Punctuator punct.OpenParen) EW whole_begins) (take_exact (fixed_span (Punctuator punct.CloseParen)) d) (λ a c p q o h. closes_with (Punctuator punct.CloseParen) a c p q o (λ t is. closing_follows a t (Punctuator punct.CloseParen) is refl)) (expect_span_begins (Punctuator punct.CloseParen)))
      (λ a b p q l h. tt) value_begins)
      (λ x w. (tt, (deeper x.1.0 w, tt))) (λ x w. fitting x.1.0 w.1.0) (λ x h s. tt) (λ x h c. tt))
      (value_goes mode) (value_comes mode) (λ x p l w. w) (λ x p l w. w) (λ x p h l s. s) (λ x p h l c. c)
    where
      deeper : (e : Expr) → expr_depth e + 1 ≤ suc d → expr_depth e ≤ d
      deeper e w = omega arith

      fitting : (e : Expr) → expr_depth e ≤ d → expr_depth e + 1 ≤ suc d
      fitting e w = omega arith

  -- ---- behind `(`

  abbrev CastP : Span → Scalar × Expr → Expr
  CastP at x = Cast x.0 x.1 (across at (span_of x.1))

  abbrev GroupP : Span → Expr × Span → Expr
  GroupP at x = Parenthesized x.0 (across at x.1)

  abbrev CastL : Span → Expr → Phrase
  CastL at = Image (CastP at) (Two (λ t. Seq (Grammar.scalar t) (Is (Punctuator punct.CloseParen))) TightL)

  abbrev GroupL : Span → Expr → Phrase
  GroupL at = Image (GroupP at) (Two expr (Spot (Punctuator punct.CloseParen)))

  cast_exact : (at : Span) → Exact (λ D. cast_from (whole D) (tight D) at) (CastL at) Deeper Calm Calm d
  cast_exact at =
      imaged (CastP at) Deeper Calm Calm
      (two (before_exact (Punctuator punct.CloseParen) (scalar_exact d) (λ t k is. fixed_ends (Punctuator punct.CloseParen) t k refl refl is)) ET (λ a b p q l h. tt) name_tight)
      (λ x w. (tt, deeper x.1 w)) (λ x w. fitting x.1 w.1) (λ x h s. (none_tight h, s)) (λ x h c. c.1)
    where
      deeper : (e : Expr) → expr_depth e + 1 ≤ suc d → expr_depth e ≤ d
      deeper e w = omega arith

      fitting : (e : Expr) → expr_depth e ≤ d → expr_depth e + 1 ≤ suc d
      fitting e w = omega arith

  group_exact : (at : Span) → Exact (λ D. group_from (whole D) (tight D) at) (GroupL at) Deeper Calm Calm d
  group_exact at =
      imaged (GroupP at) Deeper Calm Calm
      (two EW (take_exact (fixed_span (Punctuator punct.CloseParen)) d) (λ a c p q o h. closes_with (Punctuator punct.CloseParen) a c p q o (λ t is. closing_follows a t (Punctuator punct.CloseParen) is refl)) (expect_span_begins (Punctuator punct.CloseParen)))
      (λ x w. (deeper x.0 w, tt)) (λ x w. fitting x.0 w.0) (λ x h s. tt) (λ x h c. tt)
    where
      deeper : (e : Expr) → expr_depth e + 1 ≤ suc d → expr_depth e ≤ d
      deeper e w = omega arith

      fitting : (e : Expr) → expr_depth e ≤ d → expr_depth e + 1 ≤ suc d
      fitting e w = omega arith

  cast_first : (at : Span) (e : Expr) (p q : List Tok) → CastL at e p → starts_type (head (p ++ q)) ≡ true
  cast_first at e p q (x, same, s) =
      ap starts_type (seq_heads s q ∙ seq_heads s.first (s.back ++ q)) ∙ scalar_first x.0 s.first.front (s.first.back ++ (s.back ++ q)) s.first.first

  group_first : (at : Span) (e : Expr) (p q : List Tok) → GroupL at e p → starts_type (head (p ++ q)) ≡ false
  group_first at e p q (x, same, s) =
      ap starts_type (seq_heads s q) ∙ start_not_type (head (s.front ++ (s.back ++ q))) (whole_first x.0 s.front (s.back ++ q) s.first)

  abbrev InnerL : Span → Expr → Phrase
  InnerL at e p = CastL at e p ⊎ GroupL at e p

  inner_exact : (at : Span) → Exact (λ D. either starts_type (cast_from (whole D) (tight D) at) (group_from (whole D) (tight D) at)) (InnerL at) Deeper Calm Calm d
  inner_exact at = either_exact starts_type Calm (cast_exact at) (group_exact at) (λ x p q l s. cast_first at x p q l) (λ x p q l s. group_first at x p q l) (λ x p r l e c. c) (λ x p r l e c. c)

  inner_begins : (at : Span) → Begins (InnerL at) []
  inner_begins at =
      let w = whole_begins in
      let c = expect_span_begins (Punctuator punct.CloseParen) in
      record {
        value = GroupP at (w.value, c.value);
        more = w.more ++ c.more;
        spelled = inr ((w.value, c.value), refl, record { front = w.more; back = c.more; first = w.spelled; second = c.spelled; whole = refl });
      }

  abbrev OpenedL : Span × Expr → Phrase
  OpenedL = Dep (Spot (Punctuator punct.OpenParen)) InnerL

  opened_goes : (x : Span × Expr) (p : List Tok) → OpenedL x p → OpenL x.1 p
  opened_goes (at, e) p l = go l.second
    where
      here : Covers at l.front
      here = expect_span_covers (Punctuator punct.OpenParen) at l.front l.first

      go : InnerL at e l.back → OpenL e p
      go (inl (x, same, s)) =
          let parts : p ≡ l.front ++ (s.front ++ s.back) = l.whole ∙ ap (λ (z : List Tok). l.front ++ z) s.whole in
          subst (λ (z : Expr). OpenL z p) (sym same) (
            s.second.1,
            (
              span_covers at (span_of x.1) p l.front s.front s.back parts here (expr_covers x.1 s.back s.second.0),
              record { front = l.front; back = l.back; first = expect_span_is (Punctuator punct.OpenParen) at l.front l.first; second = seq_right (record { front = s.front; back = s.back; first = s.first; second = s.second.0; whole = s.whole }); whole = l.whole },
            ),
          )
      go (inr (x, same, s)) =
          let parts : p ≡ l.front ++ (s.front ++ s.back) = l.whole ∙ ap (λ (z : List Tok). l.front ++ z) s.whole in
          subst (λ (z : Expr). OpenL z p) (sym same) (
            span_covers at x.1 p l.front s.front s.back parts here (expect_span_covers (Punctuator punct.CloseParen) x.1 s.back s.second),
            record { front = l.front; back = l.back; first = expect_span_is (Punctuator punct.OpenParen) at l.front l.first; second = record { front = s.front; back = s.back; first = s.first; second = expect_span_is (Punctuator punct.CloseParen) x.1 s.back s.second; whole = s.whole }; whole = l.whole },
          )

  opened_comes : (e : Expr) (p : List Tok) → OpenL e p → Comes (λ (x : Span × Expr). x.1) OpenedL (λ x. Unit {0} × Deeper d x.1) (Deeper d) (λ x h. Calm x.1 h) Calm e p
  opened_comes (Parenthesized e at) p l =
      let s = l.1 in
      let i = s.second in
      let o = s.first.token in
      let c = i.second.token in
      let parts : p ≡ s.front ++ (i.front ++ i.back) = s.whole ∙ ap (λ (z : List Tok). s.front ++ z) i.whole in
      record {
        value = (o.span, Parenthesized e at);
        same = refl;
        spelled = record {
          front = s.front;
          back = s.back;
          first = expect_span_of (Punctuator punct.OpenParen) s.first;
          second = inr (
            (e, c.span),
            ap (Parenthesized e) (span_is at o.span c.span p s.front i.front i.back parts l.0 (one_covers s.first) (one_covers i.second)),
            record { front = i.front; back = i.back; first = i.first; second = expect_span_of (Punctuator punct.CloseParen) i.second; whole = i.whole },
          );
          whole = s.whole;
        };
        within = λ w. (tt, w);
        stops = λ h c. c;
      }
  opened_comes (Cast t e at) p l =
      let s = l.1.1 in
      let i = seq_left s.second in
      let o = s.first.token in
      let parts : p ≡ s.front ++ (i.front ++ i.back) = s.whole ∙ ap (λ (z : List Tok). s.front ++ z) i.whole in
      record {
        value = (o.span, Cast t e at);
        same = refl;
        spelled = record {
          front = s.front;
          back = s.back;
          first = expect_span_of (Punctuator punct.OpenParen) s.first;
          second = inl (
            (t, e),
            ap (Cast t e) (span_is at o.span (span_of e) p s.front i.front i.back parts l.1.0 (one_covers s.first) (expr_covers e i.back i.second)),
            record { front = i.front; back = i.back; first = i.first; second = (i.second, l.0); whole = i.whole },
          );
          whole = s.whole;
        };
        within = λ w. (tt, w);
        stops = λ h c. c;
      }
  opened_comes _ p l = absurd l

  opened_exact : Exact (λ D. cast_or_group_expr (whole D) (tight D)) OpenL Deeper Calm Calm d
  opened_exact =
      value_of (λ x. x.1) OpenL Deeper Calm Calm
      (chained_one (take_exact (fixed_span (Punctuator punct.OpenParen)) d) inner_exact (λ a b p q l h. tt) inner_begins)
      opened_comes opened_goes (λ x w. w.1) (λ x h c. c)

  -- ---- names

  abbrev ClosesList : List Expr → Option Tok → Type 0
  ClosesList es h = is_next (Punctuator punct.CloseParen) h ≡ true

  paren_follows : (h : Option Tok) → is_next (Punctuator punct.CloseParen) h ≡ true → (is_other (Punctuator punct.Comma) h ≡ true) × ((e : Expr) → WholeS e h)
  paren_follows None e = absurd cc
  paren_follows (Some t) e =
      let is = that_fixed (Punctuator punct.CloseParen) t e in
      (ap not (fixed_differs (Punctuator punct.CloseParen) (Punctuator punct.Comma) t refl is), λ x. closing_follows x t (Punctuator punct.CloseParen) is refl)

  none_first : (es : List Expr) (p q : List Tok) → Empty [] es p → is_next (Punctuator punct.CloseParen) (head q) ≡ true → is_next (Punctuator punct.CloseParen) (head (p ++ q)) ≡ true
  none_first es p q l s = rw l.1 s

  some_first : (es : List Expr) (p q : List Tok) → Listed expr es p → is_next (Punctuator punct.CloseParen) (head (p ++ q)) ≡ false
  some_first [] p q l = absurd l
  some_first (e ∷ es) p q s = ap (is_next (Punctuator punct.CloseParen)) (seq_heads s q) ∙ not_fixed (Punctuator punct.CloseParen) refl e s.front (s.back ++ q) s.first

  args_exact : Exact (λ D. arguments (whole D) (tight D)) ArgsL (ManyFit Fits) ClosesList Always d
  args_exact =
      either_exact (is_next (Punctuator punct.CloseParen)) Always
      (give_exact [] (ManyFit Fits) ClosesList Always d tt (λ h. tt))
      (restated (Listed expr) (ManyFit Fits) ClosesList Always
      (listed_exact (λ h. is_next (Punctuator punct.CloseParen) h ≡ true) EW whole_begins (λ x h o e. (paren_follows h e).1 x) (λ x t is. closing_follows x t (Punctuator punct.Comma) is refl))
      (λ x p l. l) (λ x p l. l) (λ x p l w. w) (λ x p l w. w) (λ x p h l e. ((paren_follows h e).0, e)) (λ x p h l c. tt))
      none_first (λ x p q l s. some_first x p q l) (λ x p r l e c. tt) (λ x p r l e c. tt)

  abbrev ElementP : Name → Expr × Span → Expr
  ElementP x y = Element x y.0 (across x.span y.1)

  abbrev CallP : Name → List Expr × Span → Expr
  CallP x y = Call x (exprs_from y.0) (across x.span y.1)

  abbrev ElementL : Name → Expr → Phrase
  ElementL x = Image (ElementP x) (λ y. Seq (Is (Punctuator punct.OpenBracket)) (Two expr (Spot (Punctuator punct.CloseBracket)) y))

  abbrev CallL : Name → Expr → Phrase
  CallL x = Image (CallP x) (λ y. Seq (Is (Punctuator punct.OpenParen)) (Two ArgsL (Spot (Punctuator punct.CloseParen)) y))

  element_begins : Begins (Two expr (Spot (Punctuator punct.CloseBracket))) []
  element_begins =
      let w = whole_begins in
      let c = expect_span_begins (Punctuator punct.CloseBracket) in
      record { value = (w.value, c.value); more = w.more ++ c.more; spelled = record { front = w.more; back = c.more; first = w.spelled; second = c.spelled; whole = refl } }

  call_begins : Begins (Two ArgsL (Spot (Punctuator punct.CloseParen))) []
  call_begins =
      let c = expect_span_begins (Punctuator punct.CloseParen) in
      record { value = ([], c.value); more = c.more; spelled = record { front = []; back = c.more; first = inl (refl, refl); second = c.spelled; whole = refl } }

  element_exact : (x : Name) → Exact (λ D. element_from (whole D) (tight D) x) (ElementL x) Deeper Calm Always d
  element_exact x =
      imaged (ElementP x) Deeper Calm Always
      (behind_exact (Punctuator punct.OpenBracket) (two EW (take_exact (fixed_span (Punctuator punct.CloseBracket)) d) (λ a c p q o h. closes_with (Punctuator punct.CloseBracket) a c p q o (λ t is. closing_follows a t (Punctuator punct.CloseBracket) is refl)) (expect_span_begins (Punctuator punct.CloseBracket))) element_begins)
      (λ y w. (deeper y.0 w, tt)) (λ y w. fitting y.0 w.0) (λ y h s. tt) (λ y h c. tt)
    where
      deeper : (e : Expr) → expr_depth e + 1 ≤ suc d → expr_depth e ≤ d
      deeper e w = omega arith

      fitting : (e : Expr) → expr_depth e ≤ d → expr_depth e + 1 ≤ suc d
      fitting e w = omega arith

  closes_list : (es : List Expr) (c : Span) (p q : List Tok) → Spot (Punctuator punct.CloseParen) c p → is_next (Punctuator punct.CloseParen) (head (p ++ q)) ≡ true
  closes_list es c p q o = is_here (Punctuator punct.CloseParen) p q (expect_span_is (Punctuator punct.CloseParen) c p o)

  call_exact : (x : Name) → Exact (λ D. call_from (whole D) (tight D) x) (CallL x) Deeper Calm Always d
  call_exact x =
      imaged (CallP x) Deeper Calm Always
      (behind_exact (Punctuator punct.OpenParen) (two args_exact (take_exact (fixed_span (Punctuator punct.CloseParen)) d) (λ a c p q o h. closes_list a c p q o) (expect_span_begins (Punctuator punct.CloseParen))) call_begins)
      (λ y w. (deeper y.0 w, tt)) (λ y w. fitting y.0 w.0) (λ y h s. tt) (λ y h c. tt)
    where
      deeper : (es : List Expr) → deepest (exprs_from es) + 1 ≤ suc d → ManyFit Fits d es
      deeper es w = deepest_fit d es (omega arith)

      fitting : (es : List Expr) → ManyFit Fits d es → deepest (exprs_from es) + 1 ≤ suc d
      fitting es w = let le = fit_deepest d es w in omega arith

  -- a name alone is not followed by `(`
  abbrev Half : Expr → Option Tok → Type 0
  Half (Variable x) h = is_next (Punctuator punct.OpenParen) h ≡ false
  Half _ h = Unit {0}

  abbrev TailL : Name → Expr → Phrase
  TailL x e p = ElementL x e p ⊎ (CallL x e p ⊎ Empty (Variable x) e p)

  alone_exact : (x : Name) → Exact (λ D. either (is_next (Punctuator punct.OpenParen)) (call_from (whole D) (tight D) x) (give (Variable x))) (λ e p. CallL x e p ⊎ Empty (Variable x) e p) Deeper Calm Half d
  alone_exact x =
      either_exact (is_next (Punctuator punct.OpenParen)) Half (call_exact x) (give_exact (Variable x) Deeper Calm Always d (omega arith) (λ h. tt))
      (λ e p q l s. seq_here (Punctuator punct.OpenParen) _ p q l.2) second (λ e p r l h c. subst (λ (z : Expr). Half z (head r)) (sym l.1) tt) second_closes
    where
      second : (e : Expr) (p q : List Tok) → Empty (Variable x) e p → Calm e (head q) → is_next (Punctuator punct.OpenParen) (head (p ++ q)) ≡ false
      second e p q l s = let c = subst (λ (z : Expr). Calm z (head q)) l.0 s in rw l.1 c.1

      second_closes : (e : Expr) (p r : List Tok) → Empty (Variable x) e p → is_next (Punctuator punct.OpenParen) (head (p ++ r)) ≡ false → Unit {0} → Half e (head r)
      second_closes e p r l h c = subst (λ (z : Expr). Half z (head r)) (sym l.0) (ap (λ (z : List Tok). is_next (Punctuator punct.OpenParen) (head (z ++ r))) (sym l.1) ∙ h)

  element_half : (x : Name) → Exact (λ D. element_from (whole D) (tight D) x) (ElementL x) Deeper Calm Half d
  element_half x = restated (ElementL x) Deeper Calm Half (element_exact x) (λ e p l. l) (λ e p l. l) (λ e p l w. w) (λ e p l w. w) (λ e p h l s. s) (λ e p h l c. subst (λ (z : Expr). Half z h) (sym l.1) tt)

  tail_exact : (x : Name) → Exact (λ D. named_from (whole D) (tight D) x) (TailL x) Deeper Calm Calm d
  tail_exact x =
      either_exact (is_next (Punctuator punct.OpenBracket)) Calm (element_half x) (alone_exact x)
      (λ e p q l s. seq_here (Punctuator punct.OpenBracket) _ p q l.2) second (λ e p r l h c. subst (λ (z : Expr). Calm z (head r)) (sym l.1) tt) second_closes
    where
      second : (e : Expr) (p q : List Tok) → CallL x e p ⊎ Empty (Variable x) e p → Calm e (head q) → is_next (Punctuator punct.OpenBracket) (head (p ++ q)) ≡ false
      second e p q (inl l) s = seq_not_here (Punctuator punct.OpenParen) (Punctuator punct.OpenBracket) _ p q refl l.2
      second e p q (inr l) s = let c = subst (λ (z : Expr). Calm z (head q)) l.0 s in rw l.1 c.0

      second_closes : (e : Expr) (p r : List Tok) → CallL x e p ⊎ Empty (Variable x) e p → is_next (Punctuator punct.OpenBracket) (head (p ++ r)) ≡ false → Half e (head r) → Calm e (head r)
      second_closes e p r (inl l) h c = subst (λ (z : Expr). Calm z (head r)) (sym l.1) tt
      second_closes e p r (inr l) h c =
          let half = subst (λ (z : Expr). Half z (head r)) l.0 c in
          subst (λ (z : Expr). Calm z (head r)) (sym l.0) (ap (λ (z : List Tok). is_next (Punctuator punct.OpenBracket) (head (z ++ r))) (sym l.1) ∙ h, half)

  abbrev NameL : Name × Expr → Phrase
  NameL = Dep (One the_name) TailL

  tail_begins : (x : Name) → Begins (TailL x) []
  tail_begins x = record { value = Variable x; more = []; spelled = inr (inr (refl, refl)) }

  named_goes : (x : Name × Expr) (p : List Tok) → NameL x p → NamedL x.1 p
  named_goes (x, e) p l = go l.second
    where
      here : Covers x.span l.front
      here = name_covers x l.front l.first

      go : TailL x e l.back → NamedL e p
      go (inl (y, same, s)) =
          let i = s.second in
          let parts : p ≡ l.front ++ ((s.front ++ i.front) ++ i.back) = l.whole ∙ ap (λ (z : List Tok). l.front ++ z) (s.whole ∙ ap (λ (z : List Tok). s.front ++ z) i.whole ∙ sym (append_assoc s.front i.front i.back)) in
          subst (λ (z : Expr). NamedL z p) (sym same) (
            span_covers x.span y.1 p l.front (s.front ++ i.front) i.back parts here (expect_span_covers (Punctuator punct.CloseBracket) y.1 i.back i.second),
            record { front = l.front; back = l.back; first = l.first; second = record { front = s.front; back = s.back; first = s.first; second = record { front = i.front; back = i.back; first = i.first; second = expect_span_is (Punctuator punct.CloseBracket) y.1 i.back i.second; whole = i.whole }; whole = s.whole }; whole = l.whole },
          )
      go (inr (inl (y, same, s))) =
          let i = s.second in
          let parts : p ≡ l.front ++ ((s.front ++ i.front) ++ i.back) = l.whole ∙ ap (λ (z : List Tok). l.front ++ z) (s.whole ∙ ap (λ (z : List Tok). s.front ++ z) i.whole ∙ sym (append_assoc s.front i.front i.back)) in
          subst (λ (z : Expr). NamedL z p) (sym same) (
            span_covers x.span y.1 p l.front (s.front ++ i.front) i.back parts here (expect_span_covers (Punctuator punct.CloseParen) y.1 i.back i.second),
            record { front = l.front; back = l.back; first = l.first; second = record { front = s.front; back = s.back; first = s.first; second = record { front = i.front; back = i.back; first = arguments_goes y.0 i.front i.first; second = expect_span_is (Punctuator punct.CloseParen) y.1 i.back i.second; whole = i.whole }; whole = s.whole }; whole = l.whole },
          )
      go (inr (inr (same, nil))) =
          let whole : p ≡ l.front = l.whole ∙ ap (λ (z : List Tok). l.front ++ z) nil ∙ append-nil l.front in
          subst (λ (z : Expr). NamedL z p) (sym same) (subst (One the_name x) (sym whole) l.first)

  named_comes : (e : Expr) (p : List Tok) → NamedL e p → Comes (λ (x : Name × Expr). x.1) NameL (λ x. Unit {0} × Deeper d x.1) (Deeper d) (λ x h. Calm x.1 h) Calm e p
  named_comes (Variable x) p l = record {
    value = (x, Variable x);
    same = refl;
    spelled = record { front = p; back = []; first = l; second = inr (inr (refl, refl)); whole = sym (append-nil p) };
    within = λ w. (tt, w);
    stops = λ h c. c;
  }
  named_comes (Element x e at) p l =
      let n = l.1 in
      let s = n.second in
      let i = s.second in
      let parts : p ≡ n.front ++ ((s.front ++ i.front) ++ i.back) = n.whole ∙ ap (λ (z : List Tok). n.front ++ z) (s.whole ∙ ap (λ (z : List Tok). s.front ++ z) i.whole ∙ sym (append_assoc s.front i.front i.back)) in
      record {
        value = (x, Element x e at);
        same = refl;
        spelled = record {
          front = n.front;
          back = n.back;
          first = n.first;
          second = inl (
            (e, i.second.token.span),
            ap (Element x e) (span_is at x.span i.second.token.span p n.front (s.front ++ i.front) i.back parts l.0 (name_covers x n.front n.first) (one_covers i.second)),
            record { front = s.front; back = s.back; first = s.first; second = record { front = i.front; back = i.back; first = i.first; second = expect_span_of (Punctuator punct.CloseBracket) i.second; whole = i.whole }; whole = s.whole },
          );
          whole = n.whole;
        };
        within = λ w. (tt, w);
        stops = λ h c. c;
      }
  named_comes (Call x es at) p l =
      let n = l.1 in
      let s = n.second in
      let i = s.second in
      let c = i.second.token.span in
      let parts : p ≡ n.front ++ ((s.front ++ i.front) ++ i.back) = n.whole ∙ ap (λ (z : List Tok). n.front ++ z) (s.whole ∙ ap (λ (z : List Tok). s.front ++ z) i.whole ∙ sym (append_assoc s.front i.front i.back)) in
      let covers : at ≡ across x.span c = span_is at x.span c p n.front (s.front ++ i.front) i.back parts l.0 (name_covers x n.front n.first) (one_covers i.second) in
      record {
        value = (x, Call x es at);
        same = refl;
        spelled = record {
          front = n.front;
          back = n.back;
          first = n.first;
          second = inr (inl (
            (exprs_list es, c),
            ap (Call x es) covers ∙ ap (λ (z : Exprs). Call x z (across x.span c)) (list_exprs es),
            record { front = s.front; back = s.back; first = s.first; second = record { front = i.front; back = i.back; first = arguments_comes (exprs_list es) i.front (subst (λ (z : Exprs). Grammar.arguments z i.front) (list_exprs es) i.first); second = expect_span_of (Punctuator punct.CloseParen) i.second; whole = i.whole }; whole = s.whole },
          ));
          whole = n.whole;
        };
        within = λ w. (tt, w);
        stops = λ h c. c;
      }
  named_comes _ p l = absurd l

  named_exact : Exact (λ D. name_or_call (whole D) (tight D)) NamedL Deeper Calm Calm d
  named_exact =
      value_of (λ x. x.1) NamedL Deeper Calm Calm
      (chained_one (take_exact the_name d) tail_exact (λ a b p q l h. tt) tail_begins)
      named_comes named_goes (λ x w. w.1) (λ x h c. c)

  -- ---- by the first token

  kind_exact : (k : Operand) → Exact (λ D. operand_of (whole D) (tight D) k) (KindL k) Deeper Calm Calm d
  kind_exact kind.Name = named_exact
  kind_exact kind.Constant = constant_exact d
  kind_exact kind.Open = opened_exact
  kind_exact kind.Prefix = prefix_exact
  kind_exact (kind.Transaction mode) = transaction_exact mode
  kind_exact kind.None = none_exact Deeper Calm Calm d

  -- An operand is read exactly, one level above the expressions in it.
  pub operand_exact : Exact (λ D. operand (whole D) (tight D)) TightL Deeper Calm Calm d
  operand_exact = kinds_exact operand_at (λ k D. operand_of (whole D) (tight D) k) KindL TightL Calm kind_exact pick keep (λ x p r l c. c)
    where
      low : (op : BinaryOp) → 11 ≤ precedence op → ⊥
      low Or le = omega arith
      low Xor le = omega arith
      low And le = omega arith
      low Equal le = omega arith
      low NotEqual le = omega arith
      low Less le = omega arith
      low Greater le = omega arith
      low LessEqual le = omega arith
      low GreaterEqual le = omega arith
      low ShiftLeft le = omega arith
      low ShiftRight le = omega arith
      low Add le = omega arith
      low Subtract le = omega arith
      low Multiply le = omega arith
      low Divide le = omega arith
      low Remainder le = omega arith

      lower : (op : LogicalOp) → 11 ≤ logical_precedence op → ⊥
      lower AndThen le = omega arith
      lower OrElse le = omega arith

      at_kind : (e : Expr) (p : List Tok) → TightL e p → KindL (lead_kind e) e p
      at_kind (Variable x) p l = l.0
      at_kind (Constant n t at) p l = l.0
      at_kind (Element x i at) p l = l.0
      at_kind (Call f es at) p l = l.0
      at_kind (Parenthesized e at) p l = l.0
      at_kind (Cast t e at) p l = l.0
      at_kind (Unary op e at) p l = l.0
      at_kind (InTransaction mode keyword e at) p l = (refl, l.0)
      at_kind (Binary op a b at) p l = absurd (low op l.1)
      at_kind (Logical op a b at) p l = absurd (lower op l.1)
      at_kind (Conditional c a b at) p l = absurd (let le : 11 ≤ 0 = l.1 in omega arith)

      pick : (e : Expr) (p q : List Tok) → TightL e p → Calm e (head q) → KindL (operand_at (head (p ++ q))) e p
      pick e p q l s = subst (λ (k : Operand). KindL k e p) (sym (first_kind e p q l.0)) (at_kind e p l)

      keep : (k : Operand) (e : Expr) (p : List Tok) → KindL k e p → TightL e p
      keep kind.Name (Variable x) p l = (l, lit≤ tt)
      keep kind.Name (Element x i at) p l = (l, lit≤ tt)
      keep kind.Name (Call f es at) p l = (l, lit≤ tt)
      keep kind.Name _ p l = absurd l
      keep kind.Constant (Constant n t at) p l = (l, lit≤ tt)
      keep kind.Constant _ p l = absurd l
      keep kind.Open (Parenthesized e at) p l = (l, lit≤ tt)
      keep kind.Open (Cast t e at) p l = (l, lit≤ tt)
      keep kind.Open _ p l = absurd l
      keep kind.Prefix (Unary op e at) p l = (l, lit≤ tt)
      keep kind.Prefix _ p l = absurd l
      keep (kind.Transaction mode) (InTransaction of keyword e at) p l = (l.1, lit≤ tt)
      keep (kind.Transaction mode) _ p l = absurd l
      keep kind.None e p l = absurd l
