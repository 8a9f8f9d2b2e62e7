-- Statements that have statements in them are read exactly where those are.
use Rattle.std.proofs.Common.{◌≡◌, ℕ, suc, ◌≤◌, Bool, true, false, IsFalse, List, [], ◌++◌, Option, Some, None, refl, sym, ap, subst, ◌∙◌, arith}
use Rattle.lex.specs.declared.token.Fixed.TheVariants.{Keyword, Punctuator}
use Rattle.lex.specs.declared.token.Keyword.TheVariants as key
use Rattle.lex.specs.declared.token.Punctuator.TheVariants as punct
use Rattle.lex.specs.Tokens.{fixed, Tok}
use Rattle.syntax.specs.Tree.{Expr, Simple, Start, Stmt, Stmts, Empty, Block, If, IfElse, While, DoWhile, For}
use Rattle.syntax.specs.Depth.{expr_depth, optional_depth, simple_depth, optional_simple_depth, start_depth, stmt_depth, block_depth}
use Rattle.syntax.specs.Views.{stmts_from}
use Rattle.syntax.specs.Phrases.{Phrase, Seq, Is, Begins}
use Rattle.syntax.specs.Grammar as Grammar
use Rattle.syntax.specs.Grammar.{expr, simple, optional, stmt, block, ends_open, mode_keyword}
use Rattle.parse.specs.inner.Reading.{Parser, head, is_next, seq, perhaps, behind, before, unless}
use Rattle.parse.specs.inner.Expressions.{whole_at}
use Rattle.parse.specs.inner.Statements.{if_tree, for_tree, in_parens, entry, start, simple_at, if_stmt, while_stmt, do_stmt, for_stmt, block_stmt}
use Rattle.parse.proofs.combinators.Exact.{Exact, Always, Comes, SeqL, Two, seq_exact, two, value_of}
use Rattle.parse.proofs.combinators.FixedTokens.{one_begins}
use Rattle.parse.proofs.combinators.Parts.{MaybeW, MaybeS, seq_map, seq_left, seq_right, no_seq, un_seq, seq_here, seq_not_here, head_begins, tail_begins, behind_exact, before_exact, perhaps_exact}
use Rattle.parse.proofs.combinators.Choices.{UnlessS, unless_exact}
use Rattle.parse.proofs.statements.Leads.{OpenS}
use Rattle.parse.proofs.statements.Entries.{Within, Below, BlockL, BlockW, statements, from_statements, entry_exact, braced_exact}
use Rattle.parse.proofs.expressions.Wholes.{WholeS, whole_begins, closing_follows, not_fixed}
use Rattle.parse.proofs.expressions.Levels.{whole_exact}
use Rattle.parse.proofs.statements.Simples.{EndS, paren_ends, simple_exact, simple_first, simple_not_fixed}
use Rattle.parse.proofs.statements.Declarations.{start_exact, start_begins}

-- the shortest statement
abbrev pub stmt_begins : Begins stmt []
stmt_begins = let b = one_begins (Punctuator punct.Semicolon) in record { value = Empty; more = b.more; spelled = b.spelled }

-- ---- conditions

parens_exact : (d : ℕ) → Exact (λ D. in_parens (whole_at D)) Grammar.in_parens (λ D e. expr_depth e ≤ D) Always Always d
parens_exact d =
    behind_exact (Punctuator punct.OpenParen) (before_exact (Punctuator punct.CloseParen) (whole_exact d) (λ e t is. closing_follows e t (Punctuator punct.CloseParen) is refl)) (tail_begins (Punctuator punct.CloseParen) expr whole_begins)

parens_begin : Begins Grammar.in_parens []
parens_begin = head_begins (Punctuator punct.OpenParen) (λ e. Seq (expr e) (Is (Punctuator punct.CloseParen))) (tail_begins (Punctuator punct.CloseParen) expr whole_begins)

-- a condition and a statement
pub body_begins : Begins (Two Grammar.in_parens stmt) []
body_begins =
    let c = parens_begin in
    let b = stmt_begins in
    record { value = (c.value, b.value); more = c.more ++ b.more; spelled = record { front = c.more; back = b.more; first = c.spelled; second = b.spelled; whole = refl } }

-- ---- if

-- a statement that begins with `if`
abbrev pub IfL : Stmt → Phrase
IfL (If c a) = stmt (If c a)
IfL (IfElse c a b) = stmt (IfElse c a b)
IfL _ = λ p. ⊥

abbrev ElseL : Stmt → Phrase
ElseL b = Seq (Is (Keyword key.Else)) (stmt b)

-- the branch before an else is closed
abbrev ClosedBy : Stmt → Option Stmt → Type 0
ClosedBy a None = Unit {0}
ClosedBy a (Some b) = IsFalse (ends_open a)

abbrev BranchesL : Stmt × Option Stmt → Phrase
BranchesL = SeqL stmt (optional ElseL) ClosedBy

abbrev ElseS : Option Stmt → Option Tok → Type 0
ElseS = MaybeS (Keyword key.Else) OpenS

abbrev ChosenL : Expr × (Stmt × Option Stmt) → Phrase
ChosenL x = Seq (Is (Keyword key.If)) (Two Grammar.in_parens BranchesL x)

module _ (P : ℕ → Parser Stmt) (d : ℕ) (E : Exact P stmt Within OpenS OpenS d) where
  branches_exact : Exact (λ D. seq (P D) (perhaps (Keyword key.Else) (behind (Keyword key.Else) (P D)))) BranchesL (λ D x. Within D x.0 × MaybeW Within D x.1) (λ x h. ElseS x.1 h) (λ x h. ElseS x.1 h) d
  branches_exact =
      seq_exact P (λ D. perhaps (Keyword key.Else) (behind (Keyword key.Else) (P D))) stmt (optional ElseL) ClosedBy Within (MaybeW Within) OpenS OpenS ElseS ElseS d
      E (perhaps_exact (Keyword key.Else) (behind_exact (Keyword key.Else) E stmt_begins) (λ b p q l. seq_here (Keyword key.Else) (stmt b) p q l))
      follow joins (λ a. record { value = None; text = []; spelled = refl; joined = tt })
    where
      follow : (a : Stmt) (b : Option Stmt) (p q : List Tok) → optional ElseL b p → ClosedBy a b → ElseS b (head q) → OpenS a (head (p ++ q))
      follow a None p q l j h e = subst (λ (z : List Tok). is_next (Keyword key.Else) (head (z ++ q)) ≡ false) (sym l) h
      follow a (Some b) p q l j h e = absurd (let bad : true ≡ false = sym e ∙ j in cc)

      joins : (a : Stmt) (b : Option Stmt) (p r : List Tok) → optional ElseL b p → OpenS a (head (p ++ r)) → ClosedBy a b
      joins a None p r l c = tt
      joins a (Some b) p r l c = go (ends_open a) refl
        where
          go : (o : Bool) → ends_open a ≡ o → IsFalse (ends_open a)
          go false e = e
          go true e = absurd (let bad : true ≡ false = sym (seq_here (Keyword key.Else) (stmt b) p r l) ∙ c e in cc)

  -- It is read exactly, with the else that is nearest.
  pub if_stmt_exact : (B : ℕ → Parser (List Stmt)) → Exact (λ D. if_stmt D (P D) (B D)) IfL Below OpenS OpenS d
  if_stmt_exact B =
      value_of if_tree IfL Below OpenS OpenS
      (behind_exact (Keyword key.If) (two (parens_exact d) branches_exact (λ a b p q l h. tt) branches_begin) begins)
      comes goes deepens closes
    where
      branches_begin : Begins BranchesL []
      branches_begin = let b = stmt_begins in record { value = (b.value, None); more = b.more; spelled = (no_seq b.spelled, tt) }

      begins : Begins (Two Grammar.in_parens BranchesL) []
      begins =
          let c = parens_begin in
          let b = branches_begin in
          record { value = (c.value, b.value); more = c.more ++ b.more; spelled = record { front = c.more; back = b.more; first = c.spelled; second = b.spelled; whole = refl } }

      comes : (s : Stmt) (p : List Tok) → IfL s p → Comes if_tree ChosenL (λ x. (expr_depth x.0 ≤ d) × (Within d x.1.0 × MaybeW Within d x.1.1)) (Below d) (λ x h. ElseS x.1.1 h) OpenS s p
      comes (If c a) p l = record { value = (c, (a, None)); same = refl; spelled = seq_map l (λ q o. o) (λ q s. seq_map s (λ r o. o) (λ r t. (no_seq t, tt))); within = λ w. (omega arith, (omega arith, tt)); stops = λ h s. s refl }
      comes (IfElse c a b) p l = record { value = (c, (a, Some b)); same = refl; spelled = seq_map l.1 (λ q o. o) (λ q s. seq_map s (λ r o. o) (λ r t. (t, l.0))); within = λ w. (omega arith, (omega arith, omega arith)); stops = λ h s. s }
      comes _ p l = absurd l

      goes : (x : Expr × (Stmt × Option Stmt)) (p : List Tok) → ChosenL x p → IfL (if_tree x) p
      goes (c, (a, None)) p l = seq_map l (λ q o. o) (λ q s. seq_map s (λ r o. o) (λ r t. un_seq t.0))
      goes (c, (a, Some b)) p l = (l.second.second.1, seq_map l (λ q o. o) (λ q s. seq_map s (λ r o. o) (λ r t. t.0)))

      deepens : (x : Expr × (Stmt × Option Stmt)) → (expr_depth x.0 ≤ d) × (Within d x.1.0 × MaybeW Within d x.1.1) → Below d (if_tree x)
      deepens (c, (a, None)) w = let f : expr_depth c ≤ d = w.0 in let g : stmt_depth a ≤ d = w.1.0 in omega arith
      deepens (c, (a, Some b)) w = let f : expr_depth c ≤ d = w.0 in let g : stmt_depth a ≤ d = w.1.0 in let h : stmt_depth b ≤ d = w.1.1 in omega arith

      closes : (x : Expr × (Stmt × Option Stmt)) (h : Option Tok) → ElseS x.1.1 h → OpenS (if_tree x) h
      closes (c, (a, None)) h s = λ e. s
      closes (c, (a, Some b)) h s = s

-- ---- loops

-- a loop with its condition in front
abbrev pub WhileL : Stmt → Phrase
WhileL (While c a) = stmt (While c a)
WhileL _ = λ p. ⊥

-- a loop with its condition behind
abbrev pub DoL : Stmt → Phrase
DoL (DoWhile a c) = stmt (DoWhile a c)
DoL _ = λ p. ⊥

abbrev LoopedL : Expr × Stmt → Phrase
LoopedL x = Seq (Is (Keyword key.While)) (Two Grammar.in_parens stmt x)

-- the condition behind a loop
abbrev pub UntilL : Expr → Phrase
UntilL c = Seq (Is (Keyword key.While)) (Seq (Grammar.in_parens c) (Is (Punctuator punct.Semicolon)))

abbrev DoneL : Stmt × Expr → Phrase
DoneL x = Seq (Is (Keyword key.Do)) (Two stmt UntilL x)

condition_ends : Begins (λ c. Seq (Grammar.in_parens c) (Is (Punctuator punct.Semicolon))) []
condition_ends = tail_begins (Punctuator punct.Semicolon) Grammar.in_parens parens_begin

until_begin : Begins UntilL []
until_begin = head_begins (Keyword key.While) (λ c. Seq (Grammar.in_parens c) (Is (Punctuator punct.Semicolon))) condition_ends

-- a statement, and the condition behind it
pub until_begins : Begins (Two stmt UntilL) []
until_begins =
    let a = stmt_begins in
    let c = until_begin in
    record { value = (a.value, c.value); more = a.more ++ c.more; spelled = record { front = a.more; back = c.more; first = a.spelled; second = c.spelled; whole = refl } }

module _ (P : ℕ → Parser Stmt) (d : ℕ) (E : Exact P stmt Within OpenS OpenS d) (B : ℕ → Parser (List Stmt)) where
  -- A `while` is read exactly.
  pub while_stmt_exact : Exact (λ D. while_stmt D (P D) (B D)) WhileL Below OpenS OpenS d
  while_stmt_exact =
      value_of (λ x. While x.0 x.1) WhileL Below OpenS OpenS
      (behind_exact (Keyword key.While) (two (parens_exact d) E (λ a b p q l h. tt) stmt_begins) body_begins)
      comes (λ x p l. l) deepens (λ x h s. s)
    where
      comes : (s : Stmt) (p : List Tok) → WhileL s p → Comes (λ (x : Expr × Stmt). While x.0 x.1) LoopedL (λ x. (expr_depth x.0 ≤ d) × Within d x.1) (Below d) (λ x h. OpenS x.1 h) OpenS s p
      comes (While c a) p l = record { value = (c, a); same = refl; spelled = l; within = λ w. (omega arith, omega arith); stops = λ h s. s }
      comes _ p l = absurd l

      deepens : (x : Expr × Stmt) → (expr_depth x.0 ≤ d) × Within d x.1 → Below d (While x.0 x.1)
      deepens x w = let f : expr_depth x.0 ≤ d = w.0 in let g : stmt_depth x.1 ≤ d = w.1 in omega arith

  -- So is a `do`.
  pub do_stmt_exact : Exact (λ D. do_stmt D (P D) (B D)) DoL Below OpenS OpenS d
  do_stmt_exact =
      value_of (λ x. DoWhile x.0 x.1) DoL Below OpenS OpenS
      (behind_exact (Keyword key.Do) (two E (behind_exact (Keyword key.While) (before_exact (Punctuator punct.Semicolon) (parens_exact d) (λ c t is. tt)) condition_ends) (λ a c p q l h e. seq_not_here (Keyword key.While) (Keyword key.Else) _ p q refl l) until_begin) until_begins)
      comes (λ x p l. l) deepens (λ x h s e. absurd cc)
    where
      comes : (s : Stmt) (p : List Tok) → DoL s p → Comes (λ (x : Stmt × Expr). DoWhile x.0 x.1) DoneL (λ x. Within d x.0 × (expr_depth x.1 ≤ d)) (Below d) (λ x h. Unit {0}) OpenS s p
      comes (DoWhile a c) p l = record { value = (a, c); same = refl; spelled = l; within = λ w. (omega arith, omega arith); stops = λ h s. tt }
      comes _ p l = absurd l

      deepens : (x : Stmt × Expr) → Within d x.0 × (expr_depth x.1 ≤ d) → Below d (DoWhile x.0 x.1)
      deepens x w = let f : stmt_depth x.0 ≤ d = w.0 in let g : expr_depth x.1 ≤ d = w.1 in omega arith

-- ---- for

-- a loop with three parts in front
abbrev pub ForL : Stmt → Phrase
ForL (For first c step a) = stmt (For first c step a)
ForL _ = λ p. ⊥

-- what stands in the parentheses of a `for`
abbrev pub HeadOfFor : Type 0
HeadOfFor = Start × (Option Expr × Option Simple)

abbrev UntilSemicolonL : Option Expr → Phrase
UntilSemicolonL c = Seq (optional expr c) (Is (Punctuator punct.Semicolon))

abbrev UntilParenL : Option Simple → Phrase
UntilParenL s = Seq (optional simple s) (Is (Punctuator punct.CloseParen))

-- with the parentheses
abbrev pub HeadL : HeadOfFor → Phrase
HeadL x = Seq (Is (Punctuator punct.OpenParen)) (Two Grammar.start (Two UntilSemicolonL UntilParenL) x)

abbrev HeadW : ℕ → HeadOfFor → Type 0
HeadW d x = (start_depth x.0 ≤ d) × (MaybeW (λ D e. expr_depth e ≤ D) d x.1.0 × MaybeW (λ D s. simple_depth s ≤ D) d x.1.1)

abbrev CountedL : HeadOfFor × Stmt → Phrase
CountedL x = Seq (Is (Keyword key.For)) (Two HeadL stmt x)

condition_begins : Begins UntilSemicolonL []
condition_begins = tail_begins (Punctuator punct.Semicolon) (optional expr) (record { value = None; more = []; spelled = refl })

step_begins : Begins UntilParenL []
step_begins = tail_begins (Punctuator punct.CloseParen) (optional simple) (record { value = None; more = []; spelled = refl })

parts_begin : Begins (Two UntilSemicolonL UntilParenL) []
parts_begin =
    let c = condition_begins in
    let s = step_begins in
    record { value = (c.value, s.value); more = c.more ++ s.more; spelled = record { front = c.more; back = s.more; first = c.spelled; second = s.spelled; whole = refl } }

inside_begins : Begins (Two Grammar.start (Two UntilSemicolonL UntilParenL)) []
inside_begins =
    let f = start_begins in
    let c = parts_begin in
    record { value = (f.value, c.value); more = f.more ++ c.more; spelled = record { front = f.more; back = c.more; first = f.spelled; second = c.spelled; whole = refl } }

abbrev head_of_for_begins : Begins HeadL []
head_of_for_begins = head_begins (Punctuator punct.OpenParen) (Two Grammar.start (Two UntilSemicolonL UntilParenL)) inside_begins

-- the parentheses and a statement
pub for_begins : Begins (Two HeadL stmt) []
for_begins =
    let c = head_of_for_begins in
    let b = stmt_begins in
    record { value = (c.value, b.value); more = c.more ++ b.more; spelled = record { front = c.more; back = b.more; first = c.spelled; second = b.spelled; whole = refl } }

condition_exact : (d : ℕ) → Exact (λ D. before (Punctuator punct.Semicolon) (unless (Punctuator punct.Semicolon) (whole_at D))) UntilSemicolonL (MaybeW (λ D e. expr_depth e ≤ D)) Always Always d
condition_exact d = before_exact (Punctuator punct.Semicolon) (unless_exact (Punctuator punct.Semicolon) (whole_exact d) (not_fixed (Punctuator punct.Semicolon) refl)) follow
  where
    follow : (c : Option Expr) (t : Tok) → t.terminal ≡ fixed (Punctuator punct.Semicolon) → UnlessS (Punctuator punct.Semicolon) WholeS c (Some t)
    follow None t is = rw is refl
    follow (Some e) t is = closing_follows e t (Punctuator punct.Semicolon) is refl

step_exact : (d : ℕ) → Exact (λ D. before (Punctuator punct.CloseParen) (unless (Punctuator punct.CloseParen) (simple_at D))) UntilParenL (MaybeW (λ D s. simple_depth s ≤ D)) Always Always d
step_exact d = before_exact (Punctuator punct.CloseParen) (unless_exact (Punctuator punct.CloseParen) (simple_exact d) (λ s p q l. simple_not_fixed (Punctuator punct.CloseParen) (head (p ++ q)) refl (simple_first s p q l))) follow
  where
    follow : (c : Option Simple) (t : Tok) → t.terminal ≡ fixed (Punctuator punct.CloseParen) → UnlessS (Punctuator punct.CloseParen) EndS c (Some t)
    follow None t is = rw is refl
    follow (Some s) t is = paren_ends s t is

head_of_for_exact : (d : ℕ) → Exact (λ D. behind (Punctuator punct.OpenParen) (seq (start D) (seq (before (Punctuator punct.Semicolon) (unless (Punctuator punct.Semicolon) (whole_at D))) (before (Punctuator punct.CloseParen) (unless (Punctuator punct.CloseParen) (simple_at D)))))) HeadL HeadW Always Always d
head_of_for_exact d =
    behind_exact (Punctuator punct.OpenParen) (two (start_exact d) (two (condition_exact d) (step_exact d) (λ a b p q l h. tt) step_begins) (λ a b p q l h. tt) parts_begin) inside_begins

-- the head of a loop and its body, as the grammar has them
pub head_goes : (first : Start) (c : Option Expr) (step : Option Simple) (a : Stmt) (p : List Tok) → CountedL ((first, (c, step)), a) p → stmt (For first c step a) p
head_goes first c step a p l =
    seq_map l (λ q o. o) (λ q s.
    seq_map (seq_right s) (λ r o. o) (λ r t.
    seq_map (seq_right t) (λ u o. o) (λ u v.
    seq_map (seq_right (seq_right v)) (λ x o. o) (λ x y.
    seq_map y (λ z o. o) (λ z e. seq_right e)))))

head_comes : (first : Start) (c : Option Expr) (step : Option Simple) (a : Stmt) (p : List Tok) → stmt (For first c step a) p → CountedL ((first, (c, step)), a) p
head_comes first c step a p l =
    seq_map l (λ q o. o) (λ q s.
    seq_left (seq_map s (λ r o. o) (λ r t.
    seq_left (seq_map t (λ u o. o) (λ u v.
    seq_left (seq_left (seq_map v (λ x o. o) (λ x y.
    seq_map y (λ z o. o) (λ z e. seq_left e)))))))))

module _ (P : ℕ → Parser Stmt) (d : ℕ) (E : Exact P stmt Within OpenS OpenS d) (B : ℕ → Parser (List Stmt)) where
  -- A `for` is read exactly.
  pub for_stmt_exact : Exact (λ D. for_stmt D (P D) (B D)) ForL Below OpenS OpenS d
  for_stmt_exact =
      value_of for_tree ForL Below OpenS OpenS
      (behind_exact (Keyword key.For) (two (head_of_for_exact d) E (λ a b p q l h. tt) stmt_begins) for_begins)
      comes goes deepens (λ x h s. s)
    where
      fits : (first : Start) (c : Option Expr) (step : Option Simple) → start_depth first ≤ d → optional_depth c ≤ d → optional_simple_depth step ≤ d → HeadW d (first, (c, step))
      fits first None None f g h = (f, (tt, tt))
      fits first None (Some s) f g h = (f, (tt, h))
      fits first (Some e) None f g h = (f, (g, tt))
      fits first (Some e) (Some s) f g h = (f, (g, h))

      condition_depth : (c : Option Expr) → MaybeW (λ D e. expr_depth e ≤ D) d c → optional_depth c ≤ d
      condition_depth None w = omega arith
      condition_depth (Some e) w = w

      step_depth : (s : Option Simple) → MaybeW (λ D s. simple_depth s ≤ D) d s → optional_simple_depth s ≤ d
      step_depth None w = omega arith
      step_depth (Some s) w = w

      comes : (s : Stmt) (p : List Tok) → ForL s p → Comes for_tree CountedL (λ x. HeadW d x.0 × Within d x.1) (Below d) (λ x h. OpenS x.1 h) OpenS s p
      comes (For first c step a) p l = record { value = ((first, (c, step)), a); same = refl; spelled = head_comes first c step a p l; within = λ w. (fits first c step (omega arith) (omega arith) (omega arith), omega arith); stops = λ h s. s }
      comes _ p l = absurd l

      goes : (x : HeadOfFor × Stmt) (p : List Tok) → CountedL x p → ForL (for_tree x) p
      goes x p l = head_goes x.0.0 x.0.1.0 x.0.1.1 x.1 p l

      deepens : (x : HeadOfFor × Stmt) → HeadW d x.0 × Within d x.1 → Below d (for_tree x)
      deepens x w =
          let f : start_depth x.0.0 ≤ d = w.0.0 in
          let c = condition_depth x.0.1.0 w.0.1.0 in
          let s = step_depth x.0.1.1 w.0.1.1 in
          let g : stmt_depth x.1 ≤ d = w.1 in
          omega arith

-- ---- blocks

-- a block as a statement
abbrev pub NestedL : Stmt → Phrase
NestedL (Block ss) = stmt (Block ss)
NestedL _ = λ p. ⊥

module _ (P : ℕ → Parser Stmt) (d : ℕ) (E : Exact P stmt Within OpenS OpenS d) (B : ℕ → Parser (List Stmt)) where
  -- A block in a block is read exactly.
  pub block_stmt_exact : Exact (λ D. block_stmt D (P D) (B D)) NestedL Below OpenS OpenS d
  block_stmt_exact =
      value_of (λ x. Block (stmts_from x)) NestedL Below OpenS OpenS
      (braced_exact (λ D. entry D (P D)) d (entry_exact P d E))
      comes (λ x p l. l) (λ x w. w) (λ x h s e. absurd cc)
    where
      comes : (s : Stmt) (p : List Tok) → NestedL s p → Comes (λ x. Block (stmts_from x)) BlockL (BlockW (suc d)) (Below d) Always OpenS s p
      comes (Block ss) p l =
          let same = sym (from_statements ss) in
          record { value = statements ss; same = ap Block same; spelled = subst (λ (z : Stmts). block z p) same l; within = λ w. subst (λ (z : Stmts). block_depth z ≤ suc d) same w; stops = λ h s. tt }
      comes _ p l = absurd l
