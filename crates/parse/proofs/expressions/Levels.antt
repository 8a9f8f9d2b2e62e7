-- Expressions are read exactly: operands, operators on their levels, and conditionals above them.
use Rattle.std.proofs.Common.{◌≡◌, ℕ, zero, suc, ◌+◌, ◌-◌, ◌≤◌, ◌<◌, Bool, true, false, max, List, [], ◌∷◌, ◌++◌, Option, Some, None, Ok, Err, refl, sym, ap, subst, ◌∙◌, append_assoc, arith, ◌⊎◌, inl, inr, lit≤, lit<}
use Rattle.std.proofs.lemmas.List.{append-nil}
use Rattle.lex.specs.declared.token.Fixed.{Fixed}
use Rattle.lex.specs.declared.token.Fixed.TheVariants.{Punctuator}
use Rattle.lex.specs.declared.token.Punctuator.TheVariants as punct
use Rattle.lex.specs.declared.token.Span.{Span}
use Rattle.lex.specs.Tokens.{Terminal, fixed, Tok}
use Rattle.syntax.specs.declared.tree.BinaryOp.{BinaryOp}
use Rattle.syntax.specs.declared.tree.BinaryOp.TheVariants.{Or}
use Rattle.syntax.specs.declared.tree.LogicalOp.{LogicalOp}
use Rattle.syntax.specs.declared.tree.LogicalOp.TheVariants.{AndThen}
use Rattle.syntax.specs.Tree.{Expr, Variable, Constant, Element, Call, Parenthesized, Cast, Unary, Binary, Logical, Conditional, InTransaction}
use Rattle.syntax.specs.Depth.{expr_depth}
use Rattle.syntax.specs.Typing.{span_of}
use Rattle.syntax.specs.Phrases.{Phrase, Seq, Is, Begins, Covers, is_fixed}
use Rattle.syntax.specs.Grammar.{by_fixed, binary_of, the_binary, logical_of, the_logical, level, expr}
use Rattle.parse.specs.declared.lead.Infix.{Infix}
use Rattle.parse.specs.declared.lead.Infix.TheVariants.{Computing, Choosing}
use Rattle.parse.specs.declared.lead.Operand.{Operand}
use Rattle.parse.specs.declared.lead.Operand.TheVariants as kind
use Rattle.parse.specs.inner.Reading.{wrong, deep, ◌>>=◌, Parser, head, none, bind, map_parser, either, is_next, at_least, op_at, climb_loop, across}
use Rattle.parse.specs.inner.Expressions.{infix_of, the_infix, infix_precedence, infix_node, operators, operand_of, operand_at, operand, is_operand, starts_expr, chain, conditional_from, within, conditional_at, expr_at, whole_at}
use Rattle.parse.proofs.combinators.Exact.{Exact, Comes, Two, Dep, Empty, bind_ok, ok_pair, give_exact, chained_one, two, value_of, restated}
use Rattle.parse.proofs.combinators.FixedTokens.{that_fixed, fixed_is, fixed_has, a_fixed, seq_head}
use Rattle.parse.proofs.code.Ends.{covers_both, covers_one}
use Rattle.parse.proofs.combinators.Parts.{seq_here, behind_exact}
use Rattle.parse.proofs.combinators.Chain.{Split, climb_step}
use Rattle.parse.proofs.combinators.Knot.{base_exact, knot_exact}
use Rattle.parse.proofs.combinators.Choices.{same_exact, shift_exact, within_exact, guarded_either}
use Rattle.parse.proofs.expressions.Wholes.{Calm, WholeS, calm_any, closing_follows, expr_covers, positive, name_tight, whole_begins, tight_begins}
use Rattle.parse.proofs.expressions.Operands.{Image, imaged, span_is, span_covers, Fits, Deeper, operand_exact}

-- ---- operators

under : (op : Infix) → infix_precedence op < 11
under (Computing Or) = lit< tt
under (Choosing AndThen) = lit< tt
under op = lit< tt

over : (op : Infix) → 1 ≤ infix_precedence op
over (Computing Or) = lit≤ tt
over (Choosing AndThen) = lit≤ tt
over op = lit≤ tt

level_of : (op : Infix) (a b : Expr) → level (infix_node op a b) ≡ infix_precedence op
level_of (Computing op) a b = refl
level_of (Choosing op) a b = refl

depth_of : (op : Infix) (a b : Expr) → expr_depth (infix_node op a b) ≡ suc (max (expr_depth a) (expr_depth b))
depth_of (Computing op) a b = omega arith
depth_of (Choosing op) a b = omega arith

infix_binary : (o : Option BinaryOp) (l : Option LogicalOp) (op : BinaryOp) → infix_of o l ≡ Some (Computing op) → o ≡ Some op
infix_binary (Some x) l op e = let same : Computing x ≡ Computing op = cc in let is : x ≡ op = cc in ap Some is
infix_binary None (Some x) op e = absurd (let same : Choosing x ≡ Computing op = cc in cc)
infix_binary None None op e = absurd cc

infix_logical : (o : Option BinaryOp) (l : Option LogicalOp) (op : LogicalOp) → infix_of o l ≡ Some (Choosing op) → l ≡ Some op
infix_logical (Some x) l op e = absurd (let same : Computing x ≡ Choosing op = cc in cc)
infix_logical None (Some x) op e = let same : Choosing x ≡ Choosing op = cc in let is : x ≡ op = cc in ap Some is
infix_logical None None op e = absurd cc

-- an operator that chooses does not compute
logical_not_binary : (k : Terminal) (op : LogicalOp) → by_fixed logical_of k ≡ Some op → by_fixed binary_of k ≡ None
logical_not_binary (fixed k) op e = go k e
  where
    go : (k : Fixed) → logical_of k ≡ Some op → binary_of k ≡ None
    go (Punctuator punct.LogicalAnd) e = refl
    go (Punctuator punct.LogicalOr) e = refl
    go _ e = absurd cc
logical_not_binary k op e = refl

joined : (op : Infix) (a b : Expr) (t : Tok) (pa pb : List Tok) → the_infix t ≡ Some op → expr a pa → expr b pb → infix_precedence op ≤ level a → infix_precedence op < level b → expr (infix_node op a b) (pa ++ (t ∷ pb))
joined (Computing op) a b t pa pb has la lb le lt = (
  (le, lt),
  (
    covers_both (span_of a) (span_of b) pa t pb (expr_covers a pa la) (expr_covers b pb lb),
    record { front = pa; back = t ∷ pb; first = la; second = record { front = t ∷ []; back = pb; first = record { token = t; has = infix_binary (the_binary t) (the_logical t) op has; whole = refl }; second = lb; whole = refl }; whole = refl },
  ),
)
joined (Choosing op) a b t pa pb has la lb le lt = (
  (le, lt),
  (
    covers_both (span_of a) (span_of b) pa t pb (expr_covers a pa la) (expr_covers b pb lb),
    record { front = pa; back = t ∷ pb; first = la; second = record { front = t ∷ []; back = pb; first = record { token = t; has = infix_logical (the_binary t) (the_logical t) op has; whole = refl }; second = lb; whole = refl }; whole = refl },
  ),
)

split : (e : Expr) (p : List Tok) → expr e p → 1 ≤ level e → level e < 11 → Split operators expr level e p
split (Binary op a b at) p l low high =
    let s = l.1.1 in
    let f = s.second.first in
    let t = f.token in
    let pa = s.front in
    let pb = s.second.back in
    let whole : p ≡ pa ++ (t ∷ pb) = rw (s.whole, s.second.whole, f.whole) refl in
    let covers : Covers at (pa ++ (t ∷ pb)) = subst (Covers at) whole l.1.0 in
    let here = covers_one at (across (span_of a) (span_of b)) (pa ++ (t ∷ pb)) covers (covers_both (span_of a) (span_of b) pa t pb (expr_covers a pa s.first) (expr_covers b pb s.second.second)) in
    record {
      op = Computing op;
      left = a;
      right = b;
      token = t;
      before = pa;
      after = pb;
      same = ap (Binary op a b) here;
      has = ap (λ (o : Option BinaryOp). infix_of o (the_logical t)) f.has;
      first = s.first;
      second = s.second.second;
      loose = l.0.0;
      tight = l.0.1;
      whole = whole;
    }
split (Logical op a b at) p l low high =
    let s = l.1.1 in
    let f = s.second.first in
    let t = f.token in
    let pa = s.front in
    let pb = s.second.back in
    let whole : p ≡ pa ++ (t ∷ pb) = rw (s.whole, s.second.whole, f.whole) refl in
    let covers : Covers at (pa ++ (t ∷ pb)) = subst (Covers at) whole l.1.0 in
    let here = covers_one at (across (span_of a) (span_of b)) (pa ++ (t ∷ pb)) covers (covers_both (span_of a) (span_of b) pa t pb (expr_covers a pa s.first) (expr_covers b pb s.second.second)) in
    record {
      op = Choosing op;
      left = a;
      right = b;
      token = t;
      before = pa;
      after = pb;
      same = ap (Logical op a b) here;
      has = ap (λ (o : Option BinaryOp). infix_of o (the_logical t)) (logical_not_binary t.terminal op f.has) ∙ ap (infix_of None) f.has;
      first = s.first;
      second = s.second.second;
      loose = l.0.0;
      tight = l.0.1;
      whole = whole;
    }
split (Conditional c a b at) p l low high = absurd (let le : 1 ≤ 0 = low in omega arith)
split (Cast t e at) p l low high = absurd (let h : 11 < 11 = high in omega arith)
split (Unary op e at) p l low high = absurd (let h : 11 < 11 = high in omega arith)
split e p l low high = absurd (let h : 12 < 11 = high in omega arith)

calm_over : (op : Infix) (a b : Expr) (h : Option Tok) → Calm b h → Calm (infix_node op a b) h
calm_over (Computing op) a b h c = c
calm_over (Choosing op) a b h c = c

calm_right : (op : Infix) (a b : Expr) (h : Option Tok) → Calm (infix_node op a b) h → Calm b h
calm_right (Computing op) a b h c = c
calm_right (Choosing op) a b h c = c

-- an operator's token is no other fixed token
infix_not_fixed : (k : Fixed) (t : Tok) (op : Infix) → infix_of (binary_of k) (logical_of k) ≡ None → the_infix t ≡ Some op → is_next k (Some t) ≡ false
infix_not_fixed k t op apart has = go (is_fixed k t.terminal) refl
  where
    go : (b : Bool) → is_fixed k t.terminal ≡ b → is_fixed k t.terminal ≡ false
    go false is = is
    go true is = absurd (let same = that_fixed k t is in let n : the_infix t ≡ None = ap (λ (z : Terminal). infix_of (by_fixed binary_of z) (by_fixed logical_of z)) same ∙ apart in cc)

calm_op : (a : Expr) (t : Tok) (op : Infix) → the_infix t ≡ Some op → Calm a (Some t)
calm_op a t op has = calm_any a (Some t) (infix_not_fixed (Punctuator punct.OpenBracket) t op refl has) (infix_not_fixed (Punctuator punct.OpenParen) t op refl has)

-- ---- how the reading begins

operand_none : (whole tight : Parser Expr) (ts : List Tok) → starts_expr (head ts) ≡ false → operand whole tight ts ≡ Err (wrong ts)
operand_none whole tight ts h = ap (λ (k : Operand). operand_of whole tight k ts) (is_none (operand_at (head ts)) h)
  where
    is_none : (k : Operand) → is_operand k ≡ false → k ≡ kind.None
    is_none kind.Name e = absurd cc
    is_none kind.Constant e = absurd cc
    is_none kind.Open e = absurd cc
    is_none kind.Prefix e = absurd cc
    is_none (kind.Transaction mode) e = absurd cc
    is_none kind.None e = refl

chain_start : (D b k : ℕ) (ts : List Tok) → 1 ≤ k → b + 1 ≡ D → expr_at D k ts ≡ (operand (expr_at b 0) (expr_at b 11) ts >>= λ x. climb_loop operators (expr_at b) k D D x.0 x.1)
unfolding expr_at
chain_start D b k ts le e =
    let s : D ≡ suc b = omega arith in
    let n : k ≡ suc (k - 1) = omega arith in
    rw (s, n) refl

-- a conditional stands above the operators
abbrev upper : ℕ → Parser Expr
upper d = map_parser (λ x. x.1) (bind (chain (expr_at d) d 1) (conditional_at (expr_at d 0) d))

upper_start : (D b : ℕ) (ts : List Tok) → b + 1 ≡ D → expr_at D 0 ts ≡ upper b ts
unfolding expr_at
upper_start D b ts e =
    let s : D ≡ suc b = omega arith in
    rw s refl

chain_is : (D : ℕ) (ts : List Tok) → chain (expr_at D) D 1 ts ≡ expr_at (suc D) 1 ts
unfolding expr_at
chain_is D ts = refl

too_deep : (k : ℕ) (ts : List Tok) → starts_expr (head ts) ≡ true → expr_at 0 k ts ≡ Err (deep ts)
unfolding expr_at
too_deep k ts h = rw h refl

stops : (k D : ℕ) (ts : List Tok) → starts_expr (head ts) ≡ false → expr_at D k ts ≡ Err (wrong ts)
unfolding expr_at
stops k zero ts h = rw h refl
stops zero (suc D) ts h = rw (operand_none (expr_at D 0) (expr_at D 11) ts h) refl
stops (suc k) (suc D) ts h = rw (operand_none (expr_at D 0) (expr_at D 11) ts h) refl

-- ---- what follows one thing and then another, by what follows both

module _ {A B : Type 0} (P : ℕ → Parser A) (Q : A → ℕ → Parser B) (L : A → Phrase) (M : A → B → Phrase) (WP : ℕ → A → Type 0) (WQ : A → ℕ → B → Type 0) (S1 C1 : A → Option Tok → Type 0) (S2 C2 C : A → B → Option Tok → Type 0) (d : ℕ)
    (EP : Exact P L WP S1 C1 d) (EQ : (a : A) → Exact (Q a) (M a) (WQ a) (S2 a) (C2 a) d)
    (follow : (a : A) (b : B) (p q : List Tok) → M a b p → S2 a b (head q) → S1 a (head (p ++ q)))
    (ends : (a : A) → Begins (M a) [])
    (after : (a : A) (b : B) (p r : List Tok) → M a b p → C1 a (head (p ++ r)) → C2 a b (head r) → C a b (head r)) where
  both : Exact (λ D. bind (P D) (λ a. Q a D)) (Dep L M) (λ D x. WP D x.0 × WQ x.0 D x.1) (λ x h. S2 x.0 x.1 h) (λ x h. C2 x.0 x.1 h) d
  both = chained_one EP EQ follow ends

  closed : (ts : List Tok) (x : A × B) (r : List Tok) → bind (P d) (λ a. Q a d) ts ≡ Ok (x, r) → C x.0 x.1 (head r)
  closed ts x r e =
      let b1 = bind_ok (P d ts) (λ (x : A × List Tok). Q x.0 d x.1 >>= λ (y : B × List Tok). Ok ((x.0, y.0), y.1)) (x, r) e in
      let b2 = bind_ok (Q (b1.0).0 d (b1.0).1) (λ (y : B × List Tok). Ok (((b1.0).0, y.0), y.1)) (x, r) b1.2 in
      let same = ok_pair ((b1.0).0, (b2.0).0) x (b2.0).1 r _ refl b2.2 in
      let RP = EP.ok ts (b1.0).0 (b1.0).1 b1.1 in
      let RQ = (EQ (b1.0).0).ok (b1.0).1 (b2.0).0 (b2.0).1 b2.1 in
      let here : C (b1.0).0 (b2.0).0 (head (b2.0).1) = after (b1.0).0 (b2.0).0 RQ.front (b2.0).1 RQ.spelled (subst (λ (t : List Tok). C1 (b1.0).0 (head t)) RQ.whole RP.closed) RQ.closed in
      subst (λ (y : A × B). C y.0 y.1 (head r)) same.0 (subst (λ (t : List Tok). C (b1.0).0 (b2.0).0 (head t)) same.1 here)

  pub both_closed : Exact (λ D. bind (P D) (λ a. Q a D)) (Dep L M) (λ D x. WP D x.0 × WQ x.0 D x.1) (λ x h. S2 x.0 x.1 h) (λ x h. C x.0 x.1 h) d
  both_closed = record {
    again = both.again;
    ok = λ ts x r e. let R = both.ok ts x r e in record { front = R.front; whole = R.whole; spelled = R.spelled; within = R.within; closed = closed ts x r e; stable = R.stable };
    wrong = λ ts r e. let R = both.wrong ts r e in record { front = R.front; whole = R.whole; begins = R.begins; stable = R.stable };
    deep = λ ts r e. let R = both.deep ts r e in record { front = R.front; whole = R.whole; at = R.at; after = R.after; here = R.here; begins = R.begins; stable = R.stable };
  }

-- ---- conditionals

abbrev pub LevelL : ℕ → Expr → Phrase
LevelL k e p = expr e p × (k ≤ level e)

-- what may follow an expression that was read at a level
abbrev pub StopsAt : ℕ → Expr → Option Tok → Type 0
StopsAt zero e h = WholeS e h
StopsAt (suc k) e h = (op_at operators (suc k) h ≡ None) × Calm e h

abbrev conditional_tree : Expr → Expr × Expr → Expr
conditional_tree c x = Conditional c x.0 x.1 (across (span_of c) (span_of x.1))

abbrev BranchesL : Expr × Expr → Phrase
BranchesL = Two expr (λ b. Seq (Is (Punctuator punct.Colon)) (expr b))

-- behind the condition c
abbrev BehindL : Expr → Expr → Phrase
BehindL c = Image (conditional_tree c) (λ x. Seq (Is (Punctuator punct.Question)) (BranchesL x))

abbrev ChosenL : Expr → Expr → Phrase
ChosenL c e p = BehindL c e p ⊎ Empty c e p

-- the branches of a conditional
abbrev BranchesFit : ℕ → Expr → Type 0
BranchesFit d (Conditional c a b at) = Fits d a × Fits d b
BranchesFit d _ = Unit {0}

abbrev ChosenW : Expr → ℕ → Expr → Type 0
ChosenW c D e = (e ≡ c) ⊎ Deeper D e

abbrev ChosenB : Expr → Expr → Option Tok → Type 0
ChosenB c e h = (e ≡ c) ⊎ WholeS e h

abbrev ChosenC : Expr → Expr → Option Tok → Type 0
ChosenC c e h = ((e ≡ c) × (is_next (Punctuator punct.Question) h ≡ false)) ⊎ WholeS e h

-- a conditional is not its condition
deeper_not : (c e : Expr) (p : List Tok) → BehindL c e p → e ≡ c → ⊥
deeper_not c e p (x, same, s) is =
    let depths : expr_depth (conditional_tree c x) ≡ expr_depth c = ap expr_depth (sym same ∙ is) in
    let parts : expr_depth (conditional_tree c x) ≡ max (expr_depth c) (max (expr_depth x.0) (expr_depth x.1)) + 1 = refl in
    omega arith

behind_begins : (c : Expr) (t : Tok) → is_next (Punctuator punct.Question) (Some t) ≡ true → Begins (BehindL c) (t ∷ [])
behind_begins c t e =
    let w = whole_begins in
    let colon = a_fixed (Punctuator punct.Colon) in
    record {
      value = conditional_tree c (w.value, w.value);
      more = w.more ++ (colon ∷ w.more);
      spelled = (
        (w.value, w.value),
        refl,
        record {
          front = t ∷ [];
          back = w.more ++ (colon ∷ w.more);
          first = record { token = t; has = fixed_has (Punctuator punct.Question) t (that_fixed (Punctuator punct.Question) t e); whole = refl };
          second = record {
            front = w.more;
            back = colon ∷ w.more;
            first = w.spelled;
            second = record { front = colon ∷ []; back = w.more; first = record { token = colon; has = fixed_has (Punctuator punct.Colon) colon refl; whole = refl }; second = w.spelled; whole = refl };
            whole = refl;
          };
          whole = refl;
        },
      );
    }

-- whole: any expression
module _ (d : ℕ) (EW : Exact whole_at expr Fits WholeS WholeS d) where
  colon_begins : Begins (λ b. Seq (Is (Punctuator punct.Colon)) (expr b)) []
  colon_begins =
      let w = whole_begins in
      let colon = a_fixed (Punctuator punct.Colon) in
      record { value = w.value; more = colon ∷ w.more; spelled = record { front = colon ∷ []; back = w.more; first = record { token = colon; has = fixed_has (Punctuator punct.Colon) colon refl; whole = refl }; second = w.spelled; whole = refl } }

  branches_begins : Begins BranchesL []
  branches_begins =
      let w = whole_begins in
      let c = colon_begins in
      record { value = (w.value, c.value); more = w.more ++ c.more; spelled = record { front = w.more; back = c.more; first = w.spelled; second = c.spelled; whole = refl } }

  colon_follows : (a b : Expr) (p q : List Tok) → Seq (Is (Punctuator punct.Colon)) (expr b) p → WholeS a (head (p ++ q))
  colon_follows a b p q s = subst (WholeS a) (sym (seq_head s q)) (closing_follows a s.first.token (Punctuator punct.Colon) (fixed_is (Punctuator punct.Colon) s.first.token tt s.first.has) refl)

  behind_question : (c : Expr) → Exact (λ D. conditional_from (whole_at D) c) (BehindL c) BranchesFit WholeS WholeS d
  behind_question c =
      imaged (conditional_tree c) BranchesFit WholeS WholeS
      (behind_exact (Punctuator punct.Question) (two EW (behind_exact (Punctuator punct.Colon) EW whole_begins) (λ a b p q s h. colon_follows a b p q s) colon_begins) branches_begins)
      (λ x w. w) (λ x w. w) (λ x h s. s) (λ x h s. s)

  limited_question : (c : Expr) → Exact (λ D. either (is_next (Punctuator punct.Question)) (within D c (conditional_from (whole_at D) c)) none) (BehindL c) (ChosenW c) WholeS (ChosenB c) d
  limited_question c =
      restated (BehindL c) (ChosenW c) WholeS (ChosenB c)
      (within_exact (is_next (Punctuator punct.Question)) (expr_depth c) (behind_question c) (λ x p q l. seq_here (Punctuator punct.Question) _ p q l.2) (behind_begins c) refl)
      (λ x p l. l) (λ x p l. l) (λ x p l w. inr (fits x p l w)) (λ x p l w. allows x p l w) (λ x p h l s. s) (λ x p h l s. inr s)
    where
      fits : (e : Expr) (p : List Tok) → BehindL c e p → BranchesFit d e × (expr_depth c ≤ d) → Deeper d e
      fits e p (x, same, s) w =
          let both = subst (BranchesFit d) same w.0 in
          let a : expr_depth x.0 ≤ d = both.0 in
          let b : expr_depth x.1 ≤ d = both.1 in
          let le : expr_depth c ≤ d = w.1 in
          let whole : max (expr_depth c) (max (expr_depth x.0) (expr_depth x.1)) + 1 ≤ suc d = omega arith in
          subst (Deeper d) (sym same) whole

      allows : (e : Expr) (p : List Tok) → BehindL c e p → ChosenW c d e → BranchesFit d e × (expr_depth c ≤ d)
      allows e p l (inl is) = absurd (deeper_not c e p l is)
      allows e p (x, same, s) (inr w) =
          let whole : max (expr_depth c) (max (expr_depth x.0) (expr_depth x.1)) + 1 ≤ suc d = subst (Deeper d) same w in
          let a : expr_depth x.0 ≤ d = omega arith in
          let b : expr_depth x.1 ≤ d = omega arith in
          (subst (BranchesFit d) (sym same) (a, b), omega arith)

  chosen_exact : (c : Expr) → Exact (λ D. conditional_at (whole_at D) D c) (ChosenL c) (ChosenW c) WholeS (ChosenC c) d
  chosen_exact c =
      guarded_either (λ D. within D c (conditional_from (whole_at D) c)) (is_next (Punctuator punct.Question)) (ChosenC c) (limited_question c) (give_exact c (ChosenW c) WholeS (ChosenB c) d (inl refl) (λ h. inl refl))
      (λ e p q l s. seq_here (Punctuator punct.Question) _ p q l.2) second first_closes second_closes
    where
      second : (e : Expr) (p q : List Tok) → Empty c e p → WholeS e (head q) → is_next (Punctuator punct.Question) (head (p ++ q)) ≡ false
      second e p q l s = ap (λ (z : List Tok). is_next (Punctuator punct.Question) (head (z ++ q))) l.1 ∙ s.1

      first_closes : (e : Expr) (p r : List Tok) → BehindL c e p → is_next (Punctuator punct.Question) (head (p ++ r)) ≡ true → ChosenB c e (head r) → ChosenC c e (head r)
      first_closes e p r l h (inl is) = absurd (deeper_not c e p l is)
      first_closes e p r l h (inr s) = inr s

      second_closes : (e : Expr) (p r : List Tok) → Empty c e p → is_next (Punctuator punct.Question) (head (p ++ r)) ≡ false → ChosenB c e (head r) → ChosenC c e (head r)
      second_closes e p r l h b = inl (l.0, ap (λ (z : List Tok). is_next (Punctuator punct.Question) (head (z ++ r))) (sym l.1) ∙ h)

  -- ---- a chain and what is chosen by it

  module _ (EC : Exact (λ D. expr_at (suc D) 1) (LevelL 1) Deeper (StopsAt 1) (StopsAt 1) d) where
    follow : (c e : Expr) (p q : List Tok) → ChosenL c e p → WholeS e (head q) → StopsAt 1 c (head (p ++ q))
    follow c e p q (inl l) s =
        let o = l.2.first in
        subst (StopsAt 1 c) (sym (seq_head l.2 q)) (question_follows o.token (fixed_is (Punctuator punct.Question) o.token tt o.has))
      where
        question_follows : (t : Tok) → t.terminal ≡ fixed (Punctuator punct.Question) → StopsAt 1 c (Some t)
        question_follows t is = (ap (λ (k : Terminal). at_least operators 1 (infix_of (by_fixed binary_of k) (by_fixed logical_of k))) is, calm_any c (Some t) (ap (is_fixed (Punctuator punct.OpenBracket)) is) (ap (is_fixed (Punctuator punct.OpenParen)) is))
    follow c e p q (inr l) s = subst (λ (z : List Tok). StopsAt 1 c (head (z ++ q))) (sym l.1) (subst (λ (z : Expr). WholeS z (head q)) l.0 s).0

    chosen_begins : (c : Expr) → Begins (ChosenL c) []
    chosen_begins c = record { value = c; more = []; spelled = inr (refl, refl) }

    after : (c e : Expr) (p r : List Tok) → ChosenL c e p → StopsAt 1 c (head (p ++ r)) → ChosenC c e (head r) → WholeS e (head r)
    after c e p r l s (inr w) = w
    after c e p r (inl l) s (inl n) = absurd (deeper_not c e p l n.0)
    after c e p r (inr l) s (inl n) = subst (λ (z : Expr). WholeS z (head r)) (sym l.0) (subst (λ (z : List Tok). StopsAt 1 c (head (z ++ r))) l.1 s, n.1)

    abbrev UpperL : Expr × Expr → Phrase
    UpperL = Dep (LevelL 1) ChosenL

    upper_goes : (x : Expr × Expr) (p : List Tok) → UpperL x p → LevelL 0 x.1 p
    upper_goes (c, e) p l = go l.second
      where
        go : ChosenL c e l.back → LevelL 0 e p
        go (inl (x, same, s)) =
            let i = s.second in
            let n = i.second in
            let c' = l.first.0 in
            let parts : p ≡ l.front ++ ((s.front ++ (i.front ++ n.front)) ++ n.back) = rw (l.whole, s.whole, i.whole, n.whole, append_assoc s.front (i.front ++ n.front) n.back, append_assoc i.front n.front n.back) refl in
            let spelled : expr (conditional_tree c x) p = (
              l.first.1,
              (
                span_covers (span_of c) (span_of x.1) p l.front (s.front ++ (i.front ++ n.front)) n.back parts (expr_covers c l.front l.first.0) (expr_covers x.1 n.back n.second),
                record { front = l.front; back = l.back; first = l.first.0; second = s; whole = l.whole },
              ),
            ) in
            subst (λ (z : Expr). LevelL 0 z p) (sym same) (spelled, lit≤ tt)
        go (inr (same, nil)) =
            let whole : p ≡ l.front = l.whole ∙ ap (λ (z : List Tok). l.front ++ z) nil ∙ append-nil l.front in
            subst (λ (z : Expr). LevelL 0 z p) (sym same) (subst (expr c) (sym whole) l.first.0, omega arith)

    abbrev UpperComes : Expr → List Tok → Type 0
    UpperComes e p = Comes (λ (x : Expr × Expr). x.1) UpperL (λ x. Deeper d x.0 × ChosenW x.0 d x.1) (Deeper d) (λ x h. WholeS x.1 h) WholeS e p

    -- an expression without a condition
    plain_comes : (e : Expr) (p : List Tok) → expr e p → 1 ≤ level e → UpperComes e p
    plain_comes e p l le = record {
      value = (e, e);
      same = refl;
      spelled = record { front = p; back = []; first = (l, le); second = inr (refl, refl); whole = sym (append-nil p) };
      within = λ w. (w, inl refl);
      stops = λ h s. s;
    }

    conditional_comes : (c a b : Expr) (at : Span) (p : List Tok) → expr (Conditional c a b at) p → UpperComes (Conditional c a b at) p
    conditional_comes c a b at p l =
        let n = l.1.1 in
        let s = n.second in
        let i = s.second in
        let j = i.second in
        let parts : p ≡ n.front ++ ((s.front ++ (i.front ++ j.front)) ++ j.back) = rw (n.whole, s.whole, i.whole, j.whole, append_assoc s.front (i.front ++ j.front) j.back, append_assoc i.front j.front j.back) refl in
        record {
          value = (c, Conditional c a b at);
          same = refl;
          spelled = record {
            front = n.front;
            back = n.back;
            first = (n.first, l.0);
            second = inl ((a, b), ap (Conditional c a b) (span_is at (span_of c) (span_of b) p n.front (s.front ++ (i.front ++ j.front)) j.back parts l.1.0 (expr_covers c n.front n.first) (expr_covers b j.back j.second)), s);
            whole = n.whole;
          };
          within = allowed;
          stops = λ h s. s;
        }
      where
        allowed : Deeper d (Conditional c a b at) → Deeper d c × ChosenW c d (Conditional c a b at)
        allowed w = let whole : max (expr_depth c) (max (expr_depth a) (expr_depth b)) + 1 ≤ suc d = w in (omega arith, inr w)

    upper_comes : (e : Expr) (p : List Tok) → LevelL 0 e p → UpperComes e p
    upper_comes (Conditional c a b at) p l = conditional_comes c a b at p l.0
    upper_comes (Variable x) p l = plain_comes (Variable x) p l.0 (lit≤ tt)
    upper_comes (Constant n t at) p l = plain_comes (Constant n t at) p l.0 (lit≤ tt)
    upper_comes (Element x i at) p l = plain_comes (Element x i at) p l.0 (lit≤ tt)
    upper_comes (Call f es at) p l = plain_comes (Call f es at) p l.0 (lit≤ tt)
    upper_comes (Parenthesized e at) p l = plain_comes (Parenthesized e at) p l.0 (lit≤ tt)
    upper_comes (Cast t e at) p l = plain_comes (Cast t e at) p l.0 (lit≤ tt)
    upper_comes (Unary op e at) p l = plain_comes (Unary op e at) p l.0 (lit≤ tt)
    upper_comes (InTransaction mode keyword e at) p l = plain_comes (InTransaction mode keyword e at) p l.0 (lit≤ tt)
    upper_comes (Binary op a b at) p l = plain_comes (Binary op a b at) p l.0 (over (Computing op))
    upper_comes (Logical op a b at) p l = plain_comes (Logical op a b at) p l.0 (over (Choosing op))

    upper_deepens : (x : Expr × Expr) → Deeper d x.0 × ChosenW x.0 d x.1 → Deeper d x.1
    upper_deepens (c, e) (w, inl same) = subst (Deeper d) (sym same) w
    upper_deepens (c, e) (w, inr v) = v

    upper_exact : Exact upper (LevelL 0) Deeper WholeS WholeS d
    upper_exact =
        value_of (λ x. x.1) (LevelL 0) Deeper WholeS WholeS
        (both_closed (λ D. chain (expr_at D) D 1) (λ c D. conditional_at (whole_at D) D c) (LevelL 1) ChosenL Deeper ChosenW (StopsAt 1) (StopsAt 1) (λ c. WholeS) ChosenC (λ c. WholeS) d
        (same_exact (λ D. chain (expr_at D) D 1) chain_is EC) chosen_exact follow chosen_begins after)
        upper_comes upper_goes upper_deepens (λ x h s. s)

-- ---- every level and depth

-- what is exact at level 0 is exact
whole_from : (d : ℕ) → Exact (λ D. expr_at D 0) (LevelL 0) Fits WholeS WholeS d → Exact whole_at expr Fits WholeS WholeS d
whole_from d E = restated expr Fits WholeS WholeS E (λ e p l. l.0) (λ e p l. (l, omega arith)) (λ e p l w. w) (λ e p l w. w) (λ e p h l s. s) (λ e p h l s. s)

-- Operators above operands are read exactly, where all expressions are one level deeper.
chain_step : (d k : ℕ) → 1 ≤ k → k ≤ 11 → ((j : ℕ) → j ≤ 11 → Exact (λ D. expr_at D j) (LevelL j) Fits (StopsAt j) (StopsAt j) d)
    → Exact (λ D. expr_at D k) (LevelL k) Fits (λ e h. (op_at operators k h ≡ None) × Calm e h) (λ e h. (op_at operators k h ≡ None) × Calm e h) (suc d)
chain_step d k low high E =
    climb_step operators expr level 1 11 Calm expr_at (λ D. operand (expr_at D 0) (expr_at D 11))
    (λ D b j ts le e. chain_start D b j ts le e)
    under over level_of depth_of joined split name_tight calm_over calm_right calm_op
    d k low high (λ op. E (suc (infix_precedence op)) (under op))
    (operand_exact (λ D. expr_at D 0) (λ D. expr_at D 11) d (whole_from d (E 0 (omega arith))) (E 11 (omega arith)))

level_begins : (k : ℕ) → k ≤ 11 → (t : Tok) → starts_expr (Some t) ≡ true → Begins (LevelL k) (t ∷ [])
level_begins k le t e = let b = tight_begins t e in let high : 11 ≤ level b.value = b.spelled.1 in record { value = b.value; more = b.more; spelled = (b.spelled.0, omega arith) }

-- At each level and depth expressions are read exactly.
pub levels_exact : (d k : ℕ) → k ≤ 11 → Exact (λ D. expr_at D k) (LevelL k) Fits (StopsAt k) (StopsAt k) d
levels_exact zero k le =
    base_exact (λ D. expr_at D k) (λ b. expr_at (suc b) k) (LevelL k) Fits (StopsAt k) (StopsAt k)
    (λ D b ts e. let n : D ≡ suc b = omega arith in ap (λ (n : ℕ). expr_at n k ts) n)
    starts_expr (stops k) (too_deep k) (level_begins k le) refl (λ x w. let one = positive x in omega arith)
levels_exact (suc d) zero le =
    knot_exact (λ D. expr_at D 0) upper (LevelL 0) Fits WholeS WholeS upper_start d
    (upper_exact d (whole_from d (levels_exact d 0 (omega arith))) (shift_exact (chain_step d 1 (lit≤ tt) (lit≤ tt) (levels_exact d))))
levels_exact (suc d) (suc k) le = chain_step d (suc k) (omega arith) le (levels_exact d)

-- Each expression, within each depth, is read exactly.
pub whole_exact : (d : ℕ) → Exact whole_at expr (λ D e. expr_depth e ≤ D) WholeS WholeS d
whole_exact d = whole_from d (levels_exact d 0 (omega arith))
