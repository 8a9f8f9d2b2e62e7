-- How the reading of an expression goes on, step by step.
use Rattle.std.proofs.Common.{◌≡◌, ℕ, zero, suc, ◌+◌, ◌<◌, ◌≤◌, true, false, max, List, [], ◌∷◌, ◌++◌, Result, Ok, Err, refl, ◌∙◌, arith}
use Rattle.std.proofs.lemmas.Bool.{le-leb, lt-leb}
use Rattle.lex.specs.declared.token.Fixed.{Fixed}
use Rattle.lex.specs.declared.token.Fixed.TheVariants.{Punctuator}
use Rattle.lex.specs.declared.token.Punctuator.TheVariants as punct
use Rattle.lex.specs.declared.token.Scalar.{Scalar}
use Rattle.lex.specs.declared.token.Span.{Span}
use Rattle.lex.specs.Tokens.{Tok}
use Rattle.syntax.specs.Tree.{Name, Expr, Variable, Cast, Conditional}
use Rattle.syntax.specs.Depth.{expr_depth, deepest}
use Rattle.syntax.specs.Typing.{span_of}
use Rattle.syntax.specs.Views.{exprs_from}
use Rattle.syntax.specs.Grammar.{the_name}
use Rattle.parse.specs.declared.lead.Infix.{Infix}
use Rattle.parse.specs.declared.lead.Infix.TheVariants.{Computing, Choosing}
use Rattle.parse.specs.inner.Reading.{Fault, deep, ◌>>=◌, Parser, across, behind, bind, climb_loop, either, expect, give, head, is_next, map_parser, in_front, seq, expect_span, too_deep_at, take}
use Rattle.parse.specs.inner.Expressions.{call_from, cast_from, conditional_at, element_from, expr_at, group_from, infix_node, name_or_call, named_from, cast_or_group_expr, operand, operators, outcomes, scalar, starts_expr, starts_type, whole_at}

-- ---- levels

pub none_left : (d min : ℕ) (ts : List Tok) → d ≡ 0 → expr_at d min ts ≡ too_deep_at starts_expr ts
unfolding expr_at
none_left d min ts z = rw z refl

climb_from : (b low : ℕ) (ts : List Tok) → expr_at (suc b) (suc low) ts ≡ (operand (whole_at b) (expr_at b 11) ts >>= λ x. climb_loop operators (expr_at b) (suc low) (suc b) (suc b) x.0 x.1)
unfolding expr_at
climb_from b low ts = refl

pub climb_start : (d b min : ℕ) (ts : List Tok) → b + 1 ≡ d → 1 ≤ min → expr_at d min ts ≡ (operand (whole_at b) (expr_at b 11) ts >>= λ x. climb_loop operators (expr_at b) min d d x.0 x.1)
climb_start d b zero ts e low = absurd (omega (arith, low))
climb_start zero b (suc min) ts e low = absurd (omega (arith, e))
climb_start (suc d) b (suc min) ts e low =
    let s : d ≡ b = omega (arith, e) in
    rw s (climb_from b min ts)

whole_from : (b : ℕ) (ts : List Tok) → whole_at (suc b) ts ≡ map_parser (λ x. x.1) (bind (expr_at (suc b) 1) (conditional_at (whole_at b) b)) ts
unfolding expr_at
whole_from b ts = refl

-- what stands behind a part that was read, by itself
pub alone : {A B : Type 0} (x : A) (r : Result (B × List Tok) Fault) → ((r >>= λ (y : B × List Tok). Ok ((x, y.0), y.1)) >>= λ (z : (A × B) × List Tok). Ok (z.0.1, z.1)) ≡ r
alone x (Ok y) = refl
alone x (Err f) = refl

-- what follows a condition that was read is what follows
pub whole_goes : (d b : ℕ) (ts rest : List Tok) (c : Expr) → b + 1 ≡ d → expr_at d 1 ts ≡ Ok (c, rest) → whole_at d ts ≡ conditional_at (whole_at b) b c rest
whole_goes zero b ts rest c e h = absurd (omega (arith, e))
whole_goes (suc d) b ts rest c e h =
    let s : d ≡ b = omega (arith, e) in
    let one : whole_at (suc d) ts ≡ conditional_at (whole_at d) d c rest = whole_from d ts ∙ rw h (alone c (conditional_at (whole_at d) d c rest)) in
    one ∙ rw s refl

pub whole_fails : (d b : ℕ) (ts : List Tok) (f : Fault) → b + 1 ≡ d → expr_at d 1 ts ≡ Err f → whole_at d ts ≡ Err f
whole_fails zero b ts f e h = absurd (omega (arith, e))
whole_fails (suc d) b ts f e h = whole_from d ts ∙ rw h refl

pub infix_depth : (op : Infix) (a b : Expr) → expr_depth (infix_node op a b) ≡ max (expr_depth a) (expr_depth b) + 1
infix_depth (Computing op) a b = refl
infix_depth (Choosing op) a b = refl

-- ---- what a condition chooses from

module _ (W : Parser Expr) (d : ℕ) (c : Expr) (ts : List Tok) where
  pub conditional_alone : is_next (Punctuator punct.Question) (head ts) ≡ false → conditional_at W d c ts ≡ Ok (c, ts)
  conditional_alone h = rw h refl

  pub conditional_deep : is_next (Punctuator punct.Question) (head ts) ≡ true → d < expr_depth c → conditional_at W d c ts ≡ Err (deep ts)
  conditional_deep h lt = rw (h, lt-leb (expr_depth c) d lt) refl

  module _ (here : is_next (Punctuator punct.Question) (head ts) ≡ true) (fits : expr_depth c ≤ d) where
    pub conditional_fails : (f : Fault) → outcomes W ts ≡ Err f → conditional_at W d c ts ≡ Err f
    conditional_fails f e = rw (here, le-leb (expr_depth c) d fits, e) refl

    pub conditional_goes : (x y : Expr) (r : List Tok) → outcomes W ts ≡ Ok ((x, y), r) → conditional_at W d c ts ≡ Ok (Conditional c x y (across (span_of c) (span_of y)), r)
    conditional_goes x y r e = rw (here, le-leb (expr_depth c) d fits, e) refl

-- ---- arguments

listed_with : (x : Expr) (r : Result (List Expr × List Tok) Fault) → map_parser in_front (seq (give x) (λ ts. r)) [] ≡ map_parser (λ es. (x ∷ []) ++ es) (λ ts. r) []
listed_with x (Ok y) = refl
listed_with x (Err f) = refl

-- one and then further ones
pub listed_goes : (P : Parser Expr) (M : Parser (List Expr)) (ts rest : List Tok) (x : Expr) → P ts ≡ Ok (x, rest) → map_parser in_front (seq P M) ts ≡ map_parser (λ es. (x ∷ []) ++ es) M rest
listed_goes P M ts rest x h = rw h (listed_with x (M rest))

-- behind a punctuator
module _ {A : Type 0} (k : Fixed) (P : Parser A) (ts : List Tok) where
  pub behind_none : (f : Fault) → expect k ts ≡ Err f → behind k P ts ≡ Err f
  behind_none f e = rw e refl

-- two parts behind a punctuator
module _ {A B : Type 0} (k : Fixed) (P : Parser A) (Q : Parser B) (ts : List Tok) where
  pub both_none : (f : Fault) → expect k ts ≡ Err f → behind k (seq P Q) ts ≡ Err f
  both_none f e = rw e refl

  module _ (r : List Tok) (e : expect k ts ≡ Ok (tt, r)) where
    pub first_fails : (f : Fault) → P r ≡ Err f → behind k (seq P Q) ts ≡ Err f
    first_fails f a = rw (e, a) refl

    pub second_fails : (s : List Tok) (x : A) (f : Fault) → P r ≡ Ok (x, s) → Q s ≡ Err f → behind k (seq P Q) ts ≡ Err f
    second_fails s x f a b = rw (e, a, b) refl

    pub both_go : (s t : List Tok) (x : A) (y : B) → P r ≡ Ok (x, s) → Q s ≡ Ok (y, t) → behind k (seq P Q) ts ≡ Ok ((x, y), t)
    both_go s t x y a b = rw (e, a, b) refl

-- one more expression
pub deepest_push : (es : List Expr) (e : Expr) → deepest (exprs_from (es ++ e ∷ [])) ≡ max (deepest (exprs_from es)) (expr_depth e)
deepest_push [] e = omega arith
deepest_push (x ∷ es) e = let rest = deepest_push es e in omega (arith, rest)

-- between two punctuators, the last of which is missing
pub unclosed : {A B : Type 0} (first last : Fixed) (P : Parser A) (make : A × Span → B) (ts r s : List Tok) (x : A) (f : Fault) → expect first ts ≡ Ok (tt, r) → P r ≡ Ok (x, s) → expect_span last s ≡ Err f → map_parser make (behind first (seq P (expect_span last))) ts ≡ Err f
unclosed first last P make ts r s x f e a k = rw (e, a, k) refl

-- where the first part is missing
pub unread : {A B : Type 0} (first last : Fixed) (P : Parser A) (make : A × Span → B) (ts r : List Tok) (f : Fault) → expect first ts ≡ Ok (tt, r) → P r ≡ Err f → map_parser make (behind first (seq P (expect_span last))) ts ≡ Err f
unread first last P make ts r f e a = rw (e, a) refl

-- ---- parentheses

module _ (W T : Parser Expr) (ts : List Tok) where
  pub opened_none : (f : Fault) → expect_span (Punctuator punct.OpenParen) ts ≡ Err f → cast_or_group_expr W T ts ≡ Err f
  opened_none f e = rw e refl

  module _ (at : Span) (r : List Tok) (open_at : expect_span (Punctuator punct.OpenParen) ts ≡ Ok (at, r)) where
    opened_goes : cast_or_group_expr W T ts ≡ either starts_type (cast_from W T at) (group_from W T at) r
    opened_goes = rw open_at (alone at (either starts_type (cast_from W T at) (group_from W T at) r))

    module _ (typed : starts_type (head r) ≡ true) where
      cast_goes : cast_or_group_expr W T ts ≡ cast_from W T at r
      cast_goes = opened_goes ∙ rw typed refl

      pub cast_none : (f : Fault) → scalar r ≡ Err f → cast_or_group_expr W T ts ≡ Err f
      cast_none f e = cast_goes ∙ rw e refl

      module _ (to : Scalar) (s : List Tok) (read : scalar r ≡ Ok (to, s)) where
        pub cast_open : (f : Fault) → expect (Punctuator punct.CloseParen) s ≡ Err f → cast_or_group_expr W T ts ≡ Err f
        cast_open f e = cast_goes ∙ rw (read, e) refl

        module _ (u : List Tok) (close : expect (Punctuator punct.CloseParen) s ≡ Ok (tt, u)) where
          pub cast_fails : (f : Fault) → T u ≡ Err f → cast_or_group_expr W T ts ≡ Err f
          cast_fails f e = cast_goes ∙ rw (read, close, e) refl

          pub cast_is : (x : Expr) (v : List Tok) → T u ≡ Ok (x, v) → cast_or_group_expr W T ts ≡ Ok (Cast to x (across at (span_of x)), v)
          cast_is x v e = cast_goes ∙ rw (read, close, e) refl

    module _ (untyped : starts_type (head r) ≡ false) where
      group_goes : cast_or_group_expr W T ts ≡ group_from W T at r
      group_goes = opened_goes ∙ rw untyped refl

      pub group_none : (f : Fault) → W r ≡ Err f → cast_or_group_expr W T ts ≡ Err f
      group_none f e = group_goes ∙ rw e refl

      module _ (x : Expr) (s : List Tok) (read : W r ≡ Ok (x, s)) where
        pub group_open : (f : Fault) → expect_span (Punctuator punct.CloseParen) s ≡ Err f → cast_or_group_expr W T ts ≡ Err f
        group_open f e = group_goes ∙ rw (read, e) refl

-- ---- names

pub named_none : (W T : Parser Expr) (ts : List Tok) (f : Fault) → take the_name ts ≡ Err f → name_or_call W T ts ≡ Err f
named_none W T ts f e = rw e refl

module _ (W T : Parser Expr) (ts after : List Tok) (x : Name) (read : take the_name ts ≡ Ok (x, after)) where
  named_goes : name_or_call W T ts ≡ named_from W T x after
  named_goes = rw read (alone x (named_from W T x after))

  pub variable_goes : is_next (Punctuator punct.OpenBracket) (head after) ≡ false → is_next (Punctuator punct.OpenParen) (head after) ≡ false → name_or_call W T ts ≡ Ok (Variable x, after)
  variable_goes p q = named_goes ∙ rw (p, q) refl

  pub call_goes : is_next (Punctuator punct.OpenBracket) (head after) ≡ false → is_next (Punctuator punct.OpenParen) (head after) ≡ true → name_or_call W T ts ≡ call_from W T x after
  call_goes p q = named_goes ∙ rw (p, q) refl

  pub element_goes : is_next (Punctuator punct.OpenBracket) (head after) ≡ true → name_or_call W T ts ≡ element_from W T x after
  element_goes p = named_goes ∙ rw p refl
