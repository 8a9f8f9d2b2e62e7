-- Transactions, and expressions that begin with one, are read exactly.
use Rattle.std.proofs.Common.{◌≡◌, ℕ, zero, suc, ◌+◌, ◌≤◌, Bool, true, false, List, [], ◌∷◌, ◌++◌, Some, Result, Ok, Err, refl, sym, ap, subst, ◌∙◌, arith, ◌⊎◌, inl, inr}
use Rattle.lex.specs.declared.token.Fixed.TheVariants.{Keyword, Punctuator}
use Rattle.lex.specs.declared.token.Keyword.TheVariants as key
use Rattle.lex.specs.declared.token.Punctuator.TheVariants as punct
use Rattle.lex.specs.declared.token.Span.{Span}
use Rattle.lex.specs.Tokens.{Terminal, fixed, Tok}
use Rattle.syntax.specs.declared.tree.TransactionKind.{TransactionKind}
use Rattle.syntax.specs.declared.tree.TransactionKind.TheVariants.{Plain, Outer}
use Rattle.syntax.specs.declared.tree.Mode.{Mode}
use Rattle.syntax.specs.declared.tree.Mode.TheVariants.{Atomic, Relaxed}
use Rattle.syntax.specs.Tree.{Expr, Evaluate, Assign, Adjust, Stmt, Stmts, Do, Transaction}
use Rattle.syntax.specs.Depth.{stmt_depth, block_depth}
use Rattle.syntax.specs.Views.{stmts_from}
use Rattle.syntax.specs.Meaning.{mode_of}
use Rattle.syntax.specs.Phrases.{Phrase, Seq, One, IsAt, Begins, fixed_span}
use Rattle.syntax.specs.Grammar.{the_step, mode_keyword, stmt, block, ends_open}
use Rattle.parse.specs.inner.Reading.{Fault, wrong, Parser, head, none, seq, map_parser, either, expect_span, is_next}
use Rattle.parse.specs.inner.Expressions.{says, expr_at, whole_at, operand, transaction}
use Rattle.parse.specs.inner.Statements.{kind, simple_stmt, mode_token, value_stmt, transaction_from, transaction_stmt}
use Rattle.parse.proofs.combinators.Exact.{Exact, Always, Comes, Two, Dep, take_exact, two, chained_one, value_of, restated}
use Rattle.parse.proofs.combinators.FixedTokens.{fixed_is, that_fixed, fixed_has, one_begins}
use Rattle.parse.proofs.combinators.Parts.{seq_map, seq_left, seq_right, un_seq_left, fixed_has_span, span_is_fixed, is_here, seq_not_here}
use Rattle.parse.proofs.combinators.Choices.{shift_exact, guarded_either}
use Rattle.parse.proofs.combinators.Knot.{knot_exact, base_exact}
use Rattle.parse.proofs.combinators.Rest.{rest_exact}
use Rattle.parse.proofs.code.Braces.{expect_not}
use Rattle.parse.proofs.code.ExprSteps.{climb_start, whole_fails}
use Rattle.parse.proofs.expressions.Wholes.{positive, mode_kind, transaction_begins}
use Rattle.parse.proofs.expressions.Operands.{Image, imaged}
use Rattle.parse.proofs.combinators.Starts.{first_of}
use Rattle.parse.proofs.statements.Attributes.{KindL, KindS, attribute_not_here, no_attribute, kind_exact}
use Rattle.parse.proofs.statements.Leads.{stmt_solid}
use Rattle.parse.proofs.statements.Leaves.{DoesL, simple_stmt_exact}
use Rattle.parse.proofs.statements.Entries.{Below, BlockL, BlockW, statements, from_statements, block_begins}

-- a transaction of this mode
abbrev TransactionL : Mode → Stmt → Phrase
TransactionL mode (Transaction k ss at) p = (mode_of k ≡ mode) × stmt (Transaction k ss at) p
TransactionL mode _ p = ⊥

-- an expression statement that begins with this keyword
abbrev ValueL : Mode → Stmt → Phrase
ValueL mode (Do s) p = stmt (Do s) p × (is_next (mode_keyword mode) (head p) ≡ true)
ValueL mode _ p = ⊥

-- what begins with the keyword of this mode
abbrev pub BegunL : Mode → Stmt → Phrase
BegunL mode s p = TransactionL mode s p ⊎ ValueL mode s p

pub begun_stmt : (mode : Mode) (s : Stmt) (p : List Tok) → BegunL mode s p → stmt s p
begun_stmt mode (Transaction k ss at) p (inl l) = l.1
begun_stmt mode (Transaction k ss at) p (inr l) = absurd l
begun_stmt mode (Do s) p (inl l) = absurd l
begun_stmt mode (Do s) p (inr l) = l.0
begun_stmt mode _ p (inl l) = absurd l
begun_stmt mode _ p (inr l) = absurd l

pub begun_ends : (mode : Mode) (s : Stmt) (p : List Tok) → BegunL mode s p → ends_open s ≡ false
begun_ends mode (Transaction k ss at) p l = refl
begun_ends mode (Do s) p l = refl
begun_ends mode _ p (inl l) = absurd l
begun_ends mode _ p (inr l) = absurd l

-- ---- an expression's transaction without `(`

module _ (mode : Mode) (at : Span) (ts : List Tok) (other : is_next (Punctuator punct.OpenParen) (head ts) ≡ false) where
  abbrev here : List Tok
  here = mode_token mode at ∷ ts

  here_at : expect_span (mode_keyword mode) here ≡ Ok (at, ts)
  here_at = let has = fixed_has_span (mode_keyword mode) (mode_token mode at) (fixed_has (mode_keyword mode) (mode_token mode at) refl) in rw has refl

  no_value : (whole tight : Parser Expr) → operand whole tight here ≡ Err (wrong ts)
  no_value whole tight =
      let behind = expect_not (Punctuator punct.OpenParen) ts other in
      let read : transaction whole tight mode here ≡ Err (wrong ts) = rw (here_at, behind) refl in
      rw (mode_kind mode) read

  no_whole : (d : ℕ) → whole_at (suc d) here ≡ Err (wrong ts)
  no_whole d =
      whole_fails (suc d) d here (wrong ts) (omega arith)
      (climb_start (suc d) d 1 here (omega arith) (omega arith) ∙ rw (no_value (whole_at d) (expr_at d 11)) refl)

  no_step : says the_step (head here) ≡ false
  no_step = go mode
    where
      go : (mode : Mode) → says the_step (Some (mode_token mode at)) ≡ false
      go Atomic = refl
      go Relaxed = refl

  pub value_stops : (d : ℕ) → simple_stmt (suc d) here ≡ Err (wrong ts)
  value_stops d = rw (no_step, no_whole d) refl

-- ---- an attribute, if any, and a block

-- neither begins with `(`
not_paren : (mode : Mode) (k : TransactionKind) (ss : Stmts) (p q : List Tok) → Seq (KindL mode k) (block ss) p → is_next (Punctuator punct.OpenParen) (head (p ++ q)) ≡ false
not_paren mode (Plain of) ss p q l = seq_not_here (Punctuator punct.OpenBrace) (Punctuator punct.OpenParen) _ p q refl (un_seq_left (seq_map l (λ r o. o.1) (λ r o. o)))
not_paren Atomic Outer ss p q l = first_of (λ h. is_next (Punctuator punct.OpenParen) h ≡ false) p q l (attribute_not_here (Punctuator punct.OpenParen) refl refl)
not_paren Relaxed Outer ss p q l = absurd l.first

kind_goes : (mode : Mode) (k : TransactionKind) (ss : Stmts) (at : Span) (p : List Tok) → Seq (IsAt (mode_keyword mode) at) (Seq (KindL mode k) (block ss)) p → (mode_of k ≡ mode) × stmt (Transaction k ss at) p
kind_goes mode (Plain of) ss at p l =
    let e = l.second.first.0 in
    (e, seq_map l (λ q o. subst (λ (z : Mode). IsAt (mode_keyword z) at q) (sym e) o) (λ q o. un_seq_left (seq_map o (λ r x. x.1) (λ r x. x))))
kind_goes Atomic Outer ss at p l = (refl, seq_left l)
kind_goes Relaxed Outer ss at p l = absurd l.second.first

kind_comes : (mode : Mode) (k : TransactionKind) (ss : Stmts) (at : Span) (p : List Tok) → mode_of k ≡ mode → stmt (Transaction k ss at) p → Seq (IsAt (mode_keyword mode) at) (Seq (KindL mode k) (block ss)) p
kind_comes mode (Plain of) ss at p e l = seq_map l (λ q o. subst (λ (z : Mode). IsAt (mode_keyword z) at q) e o) (λ q o. record { front = []; back = q; first = (e, refl); second = o; whole = refl })
kind_comes Atomic Outer ss at p e l = seq_right l
kind_comes Relaxed Outer ss at p e l = absurd cc

-- ---- behind the keyword, which has a span

does_solid : (s : Stmt) → DoesL s [] → ⊥
does_solid (Do s) l = stmt_solid (Do s) [] l
does_solid _ l = absurd l

does_deep : (s : Stmt) (p : List Tok) → DoesL s p → 2 ≤ stmt_depth s
does_deep (Do (Evaluate e)) p l = let h = positive e in omega arith
does_deep (Do (Assign to op e)) p l = let h = positive e in omega arith
does_deep (Do (Adjust to by)) p l = let h = positive to in omega arith
does_deep _ p l = absurd l

module _ (mode : Mode) (at : Span) where
  -- what an expression statement goes on with
  abbrev ValueRestL : Stmt → Phrase
  ValueRestL s p = DoesL s (mode_token mode at ∷ p)

  abbrev ValueW : ℕ → Stmt → Type 0
  ValueW d s = Below d s × (1 ≤ d)

  abbrev value : ℕ → Parser Stmt
  value D = either (is_next (Punctuator punct.OpenParen)) (value_stmt D mode at) none

  abbrev deeper : ℕ → Parser Stmt
  deeper D ts = simple_stmt (suc D) (mode_token mode at ∷ ts)

  value_start : (D b : ℕ) (ts : List Tok) → b + 1 ≡ D → value D ts ≡ deeper b ts
  value_start D b ts e =
      let n : D ≡ suc b = omega (arith, e) in
      rw n (go (is_next (Punctuator punct.OpenParen) (head ts)) refl)
    where
      go : (o : Bool) → is_next (Punctuator punct.OpenParen) (head ts) ≡ o → value (suc b) ts ≡ deeper b ts
      go true is = rw is refl
      go false is = rw is (sym (value_stops mode at ts is b))

  value_begins : (u : Tok) → is_next (Punctuator punct.OpenParen) (Some u) ≡ true → Begins ValueRestL (u ∷ [])
  value_begins u is =
      let b = transaction_begins mode (mode_token mode at) u refl (that_fixed (Punctuator punct.OpenParen) u is) in
      let e = one_begins (Punctuator punct.Semicolon) in
      record { value = Do (Evaluate b.value); more = b.more ++ e.more; spelled = record { front = mode_token mode at ∷ u ∷ b.more; back = e.more; first = b.spelled.0; second = e.spelled; whole = refl } }

  value_limited : (d : ℕ) → Exact value ValueRestL ValueW Always Always d
  value_limited zero =
      base_exact value deeper ValueRestL ValueW Always Always value_start
      (is_next (Punctuator punct.OpenParen)) (λ D ts h. rw h refl) (λ ts h. rw h refl) value_begins refl (λ s w. let h : 1 ≤ 0 = w.1 in omega arith)
  value_limited (suc d) =
      knot_exact value deeper ValueRestL ValueW Always Always value_start d
      (restated ValueRestL (λ D s. ValueW (suc D) s) Always Always
      (rest_exact (mode_token mode at) (is_next (Punctuator punct.OpenParen)) (shift_exact (simple_stmt_exact (suc d))) does_solid (λ D ts h. value_stops mode at ts h D) refl)
      (λ s p l. l) (λ s p l. l) (λ s p l w. (w, omega arith)) (λ s p l w. w.0) (λ s p h l x. tt) (λ s p h l x. tt))

  value_exact : (d : ℕ) → Exact value ValueRestL Below Always Always d
  value_exact d =
      restated ValueRestL Below Always Always (value_limited d)
      (λ s p l. l) (λ s p l. l) (λ s p l w. w.0) (λ s p l w. (w, let h = does_deep s (mode_token mode at ∷ p) l in let g : stmt_depth s ≤ suc d = w in omega arith)) (λ s p h l x. tt) (λ s p h l x. tt)

  value_opens : (s : Stmt) (p q : List Tok) → ValueRestL s p → is_next (Punctuator punct.OpenParen) (head (p ++ q)) ≡ true
  value_opens s p q l = go (is_next (Punctuator punct.OpenParen) (head (p ++ q))) refl
    where
      no_both : {X : Type 0} (r : Result X Fault) (x : X) (f : Fault) → r ≡ Ok x → r ≡ Err f → ⊥
      no_both r x f p q = cc

      go : (b : Bool) → is_next (Punctuator punct.OpenParen) (head (p ++ q)) ≡ b → is_next (Punctuator punct.OpenParen) (head (p ++ q)) ≡ true
      go true is = is
      go false is =
          let n = stmt_depth s in
          let read = (simple_stmt_exact (suc n)).again s (mode_token mode at ∷ p) q l (omega arith) tt in
          absurd (no_both (simple_stmt (suc n) (mode_token mode at ∷ (p ++ q))) (s, q) (wrong (p ++ q)) read (value_stops mode at (p ++ q) is n))

  abbrev block_tree : TransactionKind × List Stmt → Stmt
  block_tree x = Transaction x.0 (stmts_from x.1) at

  -- an attribute, if any, and a block
  abbrev AttributeBlockL : TransactionKind × List Stmt → Phrase
  AttributeBlockL = Two (KindL mode) BlockL

  abbrev FromL : Stmt → Phrase
  FromL s p = ValueRestL s p ⊎ Image block_tree AttributeBlockL s p

  plain_kind : KindL mode (Plain mode) []
  plain_kind = (refl, refl)

  from_begins : Begins FromL []
  from_begins =
      let b = block_begins in
      record { value = block_tree (Plain mode, b.value); more = b.more; spelled = inr ((Plain mode, b.value), refl, record { front = []; back = b.more; first = plain_kind; second = b.spelled; whole = refl }) }

  module _ (P : ℕ → Parser Stmt) (B : ℕ → Parser (List Stmt)) (d : ℕ) (E : Exact B BlockL BlockW Always Always d) where
    block_exact : Exact (λ D. map_parser block_tree (seq (kind mode) (B D))) (Image block_tree AttributeBlockL) Below Always Always d
    block_exact = imaged block_tree Below Always Always (two (kind_exact mode d) E no_attribute_follows block_begins) shallower deepens (λ x h s. tt) (λ x h c. tt)
      where
        no_attribute_follows : (k : TransactionKind) (ss : List Stmt) (p q : List Tok) → BlockL ss p → Unit {0} → KindS k (head (p ++ q))
        no_attribute_follows k ss p q l h = no_attribute (head (p ++ q)) (seq_not_here (Punctuator punct.OpenBrace) (Punctuator punct.OpenBracket) _ p q refl l) (seq_not_here (Punctuator punct.OpenBrace) (Keyword key.Attribute) _ p q refl l)

        shallower : (x : TransactionKind × List Stmt) → Below d (block_tree x) → Unit {0} × BlockW d x.1
        shallower x w = let h : block_depth (stmts_from x.1) + 1 ≤ suc d = w in (tt, omega arith)

        deepens : (x : TransactionKind × List Stmt) → Unit {0} × BlockW d x.1 → Below d (block_tree x)
        deepens x w = let h : block_depth (stmts_from x.1) ≤ d = w.1 in omega arith

    from_exact : Exact (λ D. transaction_from D (P D) (B D) mode at) FromL Below Always Always d
    from_exact =
        guarded_either (λ D. value_stmt D mode at) (is_next (Punctuator punct.OpenParen)) Always (value_exact d) block_exact
        (λ s p q l h. value_opens s p q l) braces (λ s p r l e c. tt) (λ s p r l e c. tt)
      where
        braces : (s : Stmt) (p q : List Tok) → Image block_tree AttributeBlockL s p → Unit {0} → is_next (Punctuator punct.OpenParen) (head (p ++ q)) ≡ false
        braces s p q (x, same, l) h = not_paren mode x.0 (stmts_from x.1) p q l

-- ---- with the keyword

module _ (mode : Mode) where
  abbrev PartsL : Span × Stmt → Phrase
  PartsL = Dep (One (fixed_span (mode_keyword mode))) (FromL mode)

  -- a token of the keyword is that keyword with its span
  token_is : (t : Tok) → t.terminal ≡ fixed (mode_keyword mode) → t ≡ mode_token mode t.span
  token_is t is = ap (λ (k : Terminal). record { terminal = k; span = t.span }) is

  goes : (x : Span × Stmt) (p : List Tok) → PartsL x p → BegunL mode x.1 p
  goes (at, s) p l = go s l.second
    where
      token : l.first.token ≡ mode_token mode at
      token =
          let both = span_is_fixed (mode_keyword mode) l.first.token at l.first.has in
          token_is l.first.token (fixed_is (mode_keyword mode) l.first.token tt both.0) ∙ ap (mode_token mode) both.1

      whole : p ≡ mode_token mode at ∷ l.back
      whole = l.whole ∙ ap (λ (z : List Tok). z ++ l.back) l.first.whole ∙ ap (λ (z : Tok). z ∷ l.back) token

      next : is_next (mode_keyword mode) (head p) ≡ true
      next = ap (λ (z : List Tok). is_next (mode_keyword mode) (head z)) l.whole ∙ is_here (mode_keyword mode) l.front l.back (record { token = l.first.token; has = (span_is_fixed (mode_keyword mode) l.first.token at l.first.has).0; whole = l.first.whole })

      go : (s : Stmt) → FromL mode at s l.back → BegunL mode s p
      go (Do x) (inl v) = inr (subst (stmt (Do x)) (sym whole) v, next)
      go _ (inl v) = absurd v
      go s (inr (y, same, b)) = inl (subst (λ (z : Stmt). TransactionL mode z p) (sym same) (kind_goes mode y.0 (stmts_from y.1) at p (record { front = l.front; back = l.back; first = l.first; second = b; whole = l.whole })))

  comes : (d : ℕ) (s : Stmt) (p : List Tok) → BegunL mode s p → Comes (λ (x : Span × Stmt). x.1) PartsL (λ x. Unit {0} × Below d x.1) (Below d) (λ x h. Unit {0}) Always s p
  comes d (Transaction k ss at) p (inl l) =
      let same = sym (from_statements ss) in
      let s = kind_comes mode k ss at p l.0 l.1 in
      record {
        value = (at, Transaction k ss at);
        same = refl;
        spelled = record {
          front = s.front;
          back = s.back;
          first = s.first;
          second = inr ((k, statements ss), ap (λ (z : Stmts). Transaction k z at) same, seq_map s.second (λ q o. o) (λ q o. subst (λ (z : Stmts). block z q) same o));
          whole = s.whole;
        };
        within = λ w. (tt, w);
        stops = λ h s. tt;
      }
  comes d (Do x) [] (inr l) = absurd (stmt_solid (Do x) [] l.0)
  comes d (Do x) (t ∷ p) (inr l) =
      let is = that_fixed (mode_keyword mode) t l.1 in
      record {
        value = (t.span, Do x);
        same = refl;
        spelled = record {
          front = t ∷ [];
          back = p;
          first = record { token = t; has = fixed_has_span (mode_keyword mode) t (fixed_has (mode_keyword mode) t is); whole = refl };
          second = inl (subst (λ (z : Tok). stmt (Do x) (z ∷ p)) (token_is t is) l.0);
          whole = refl;
        };
        within = λ w. (tt, w);
        stops = λ h s. tt;
      }
  comes d _ p (inl l) = absurd l
  comes d _ p (inr l) = absurd l

  -- What begins with the keyword of a transaction is read exactly.
  pub transaction_stmt_exact : (P : ℕ → Parser Stmt) (B : ℕ → Parser (List Stmt)) (d : ℕ) → Exact B BlockL BlockW Always Always d → Exact (λ D. transaction_stmt D (P D) (B D) mode) (BegunL mode) Below Always Always d
  transaction_stmt_exact P B d E =
      value_of (λ x. x.1) (BegunL mode) Below Always Always
      (chained_one (take_exact (fixed_span (mode_keyword mode)) d) (λ at. from_exact mode at P B d E) (λ a b p q l h. tt) (from_begins mode))
      (comes d) goes (λ x w. w.1) (λ x h c. tt)
