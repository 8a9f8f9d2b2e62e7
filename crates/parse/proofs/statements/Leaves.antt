-- Statements that hold no others are read exactly.
use Rattle.std.proofs.Common.{◌≡◌, ℕ, suc, ◌+◌, ◌≤◌, Bool, true, false, List, [], ◌∷◌, ◌++◌, Option, Some, None, refl, sym, ap, arith}
use Rattle.lex.specs.declared.token.Fixed.{Fixed}
use Rattle.lex.specs.declared.token.Fixed.TheVariants.{Keyword, Punctuator}
use Rattle.lex.specs.declared.token.Keyword.TheVariants as key
use Rattle.lex.specs.declared.token.Punctuator.TheVariants as punct
use Rattle.lex.specs.declared.token.Span.{Span}
use Rattle.lex.specs.Tokens.{string_literal, fixed, Tok}
use Rattle.syntax.specs.Tree as Tree
use Rattle.syntax.specs.Tree.{Expr, Exprs, Stmt, Empty, Do, Print, Break, Continue, Return, Cancel, CancelOuter}
use Rattle.syntax.specs.Depth.{expr_depth, deepest, optional_depth, simple_depth, stmt_depth}
use Rattle.syntax.specs.Views.{exprs_from}
use Rattle.syntax.specs.Phrases.{Phrase, Seq, One, Is, Begins, Many, the_fixed, fixed_span}
use Rattle.syntax.specs.Grammar.{the_text, expr, further, optional, simple, stmt}
use Rattle.parse.specs.inner.Reading.{head, is_next, is_other}
use Rattle.parse.specs.inner.Statements.{cancel_tree, cancel_stmt, print_tree, print_stmt, alone_stmt, return_stmt, simple_stmt, empty_stmt}
use Rattle.parse.proofs.combinators.Exact.{Exact, Always, Comes, Two, take_exact, two, value_of}
use Rattle.parse.proofs.combinators.Many.{ManyFit}
use Rattle.parse.proofs.combinators.Choices.{UnlessS, shift_exact, unless_exact}
use Rattle.parse.proofs.combinators.Lists.{Behind, further_exact}
use Rattle.parse.proofs.combinators.FixedTokens.{that_fixed}
use Rattle.parse.proofs.combinators.Parts.{MaybeW, seq_map, seq_left, seq_right, un_seq_left, head_begins, tail_begins, behind_exact, before_exact}
use Rattle.parse.proofs.expressions.Wholes.{WholeS, whole_begins, not_fixed, closing_follows}
use Rattle.parse.proofs.expressions.Levels.{whole_exact}
use Rattle.parse.proofs.statements.Simples.{simple_exact, semicolon_ends}
use Rattle.parse.proofs.statements.Attributes.{MaybeAttributeL, MaybeAttributeS, maybe_attribute_begins, maybe_attribute_exact}

-- ---- expressions behind commas

abbrev pub exprs_in : Exprs → List Expr
exprs_in Tree.[] = []
exprs_in (Tree.◌∷◌ e es) = e ∷ exprs_in es

pub from_exprs : (es : Exprs) → exprs_from (exprs_in es) ≡ es
from_exprs Tree.[] = refl
from_exprs (Tree.◌∷◌ e es) = ap (Tree.◌∷◌ e) (from_exprs es)

pub many_further : (es : List Expr) (p : List Tok) → Many (Behind expr) es p → further (exprs_from es) p
many_further [] p l = l
many_further (e ∷ es) p l = seq_right (seq_map l (λ q a. a) (many_further es))

pub further_many : (es : Exprs) (p : List Tok) → further es p → Many (Behind expr) (exprs_in es) p
further_many Tree.[] p l = l
further_many (Tree.◌∷◌ e es) p l = seq_map (seq_left l) (λ q a. a) (further_many es)

abbrev ExprW : ℕ → Expr → Type 0
ExprW d e = expr_depth e ≤ d

pub exprs_fit : (d : ℕ) (es : Exprs) → deepest es ≤ d → ManyFit ExprW d (exprs_in es)
exprs_fit d Tree.[] w = tt
exprs_fit d (Tree.◌∷◌ e es) w = (omega arith, exprs_fit d es (omega arith))

pub fit_exprs : (d : ℕ) (es : List Expr) → ManyFit ExprW d es → deepest (exprs_from es) ≤ d
fit_exprs d [] w = omega arith
fit_exprs d (e ∷ es) w = let h : expr_depth e ≤ d = w.0 in let g = fit_exprs d es w.1 in omega arith

-- ---- `printf`

abbrev pub StmtW : ℕ → Stmt → Type 0
StmtW d s = stmt_depth s ≤ suc d

abbrev pub PrintL : Stmt → Phrase
PrintL (Print at format format_at es) p = stmt (Print at format format_at es) p
PrintL _ p = ⊥

abbrev PrintedL : List Expr → Phrase
PrintedL es = Seq (Seq (Many (Behind expr) es) (Is (Punctuator punct.CloseParen))) (Is (Punctuator punct.Semicolon))

abbrev PartsL : Span × ((List ℕ × Span) × List Expr) → Phrase
PartsL = Two (One (fixed_span (Keyword key.Printf))) (λ x. Seq (Is (Punctuator punct.OpenParen)) (Two (One the_text) PrintedL x))

text_begins : Begins (One the_text) []
text_begins = record { value = ([], nowhere); more = record { terminal = string_literal []; span = nowhere } ∷ []; spelled = record { token = record { terminal = string_literal []; span = nowhere }; has = refl; whole = refl } }
  where
    nowhere : Span
    nowhere = record { start = 0; «end» = 0 }

printed_begins : Begins PrintedL []
printed_begins = tail_begins (Punctuator punct.Semicolon) (λ es. Seq (Many (Behind expr) es) (Is (Punctuator punct.CloseParen))) (tail_begins (Punctuator punct.CloseParen) (Many (Behind expr)) (record { value = []; more = []; spelled = refl }))

inner_begins : Begins (Two (One the_text) PrintedL) []
inner_begins =
    let a = text_begins in
    let b = printed_begins in
    record { value = (a.value, b.value); more = a.more ++ b.more; spelled = record { front = a.more; back = b.more; first = a.spelled; second = b.spelled; whole = refl } }

print_stmt_goes : (x : Span × ((List ℕ × Span) × List Expr)) (p : List Tok) → PartsL x p → PrintL (print_tree x) p
print_stmt_goes x p l =
    seq_map l (λ q a. a) (λ q a. seq_map a (λ r b. b) (λ r b. seq_map b (λ u c. c) (λ u c. seq_map (seq_right c) (many_further x.1.1) (λ v e. e))))

print_stmt_comes : (d : ℕ) (s : Stmt) (p : List Tok) → PrintL s p → Comes print_tree PartsL (λ x. Unit {0} × (Unit {0} × ManyFit ExprW d x.1.1)) (StmtW d) (λ x h. Unit {0}) Always s p
print_stmt_comes d (Print at format format_at es) p l = record {
  value = (at, ((format, format_at), exprs_in es));
  same = ap (Print at format format_at) (sym (from_exprs es));
  spelled = seq_map l (λ q a. a) (λ q a. seq_map a (λ r b. b) (λ r b. seq_map b (λ u c. c) (λ u c. seq_left (seq_map c (further_many es) (λ v e. e)))));
  within = λ w. (tt, (tt, exprs_fit d es (let h : deepest es + 1 ≤ suc d = w in omega arith)));
  stops = λ h c. tt;
}
print_stmt_comes d _ p l = absurd l

pub print_stmt_exact : (d : ℕ) → Exact print_stmt PrintL StmtW Always Always d
print_stmt_exact d =
    value_of print_tree PrintL StmtW Always Always
    (two (take_exact (fixed_span (Keyword key.Printf)) d)
    (behind_exact (Punctuator punct.OpenParen)
    (two (take_exact the_text d)
    (before_exact (Punctuator punct.Semicolon)
    (before_exact (Punctuator punct.CloseParen) (further_exact (λ h. is_next (Punctuator punct.CloseParen) h ≡ true) (whole_exact d) whole_begins follows comma) (λ a t is. (rw is refl, rw is refl)))
    (λ a t is. tt))
    (λ a b p q l h. tt) printed_begins)
    inner_begins)
    (λ a b p q l h. tt) (head_begins (Punctuator punct.OpenParen) (Two (One the_text) PrintedL) inner_begins))
    (print_stmt_comes d) print_stmt_goes deepens (λ x h c. tt)
  where
    follows : (e : Expr) (h : Option Tok) → is_other (Punctuator punct.Comma) h ≡ true → is_next (Punctuator punct.CloseParen) h ≡ true → WholeS e h
    follows e None o i = absurd cc
    follows e (Some t) o i = closing_follows e t (Punctuator punct.CloseParen) (that_fixed (Punctuator punct.CloseParen) t i) refl

    comma : (e : Expr) (t : Tok) → t.terminal ≡ fixed (Punctuator punct.Comma) → WholeS e (Some t)
    comma e t is = closing_follows e t (Punctuator punct.Comma) is refl

    deepens : (x : Span × ((List ℕ × Span) × List Expr)) → Unit {0} × (Unit {0} × ManyFit ExprW d x.1.1) → deepest (exprs_from x.1.1) + 1 ≤ suc d
    deepens x w = let h = fit_exprs d x.1.1 w.1.1 in omega arith

-- ---- jumps

abbrev JumpPart : Fixed → Span → Phrase
JumpPart k at = Seq (One (fixed_span k) at) (Is (Punctuator punct.Semicolon))

alone_stmt_exact : (k : Fixed) (tree : Span → Stmt) (L : Stmt → Phrase) (d : ℕ)
    → ((s : Stmt) (p : List Tok) → L s p → (at : Span) × (s ≡ tree at) × JumpPart k at p)
    → ((at : Span) (p : List Tok) → JumpPart k at p → L (tree at) p)
    → ((at : Span) → stmt_depth (tree at) ≡ 1)
    → Exact (λ D. alone_stmt D k tree) L StmtW Always Always d
alone_stmt_exact k tree L d comes goes depth =
    value_of tree L StmtW Always Always (before_exact (Punctuator punct.Semicolon) (take_exact (fixed_span k) d) (λ a t is. tt))
    (λ y p l. let c = comes y p l in record { value = c.0; same = c.1; spelled = c.2; within = λ w. tt; stops = λ h s. tt })
    goes (λ at w. let e = depth at in omega arith) (λ x h c. tt)

abbrev pub BreakL : Stmt → Phrase
BreakL (Break at) p = stmt (Break at) p
BreakL _ p = ⊥

abbrev pub ContinueL : Stmt → Phrase
ContinueL (Continue at) p = stmt (Continue at) p
ContinueL _ p = ⊥

abbrev pub CancelL : Stmt → Phrase
CancelL (Cancel at) p = stmt (Cancel at) p
CancelL (CancelOuter at) p = stmt (CancelOuter at) p
CancelL _ p = ⊥

pub break_exact : (d : ℕ) → Exact (λ D. alone_stmt D (Keyword key.Break) Break) BreakL StmtW Always Always d
break_exact d = alone_stmt_exact (Keyword key.Break) Break BreakL d comes (λ at p l. l) (λ at. refl)
  where
    comes : (s : Stmt) (p : List Tok) → BreakL s p → (at : Span) × (s ≡ Break at) × JumpPart (Keyword key.Break) at p
    comes (Break at) p l = (at, refl, l)
    comes _ p l = absurd l

pub continue_exact : (d : ℕ) → Exact (λ D. alone_stmt D (Keyword key.Continue) Continue) ContinueL StmtW Always Always d
continue_exact d = alone_stmt_exact (Keyword key.Continue) Continue ContinueL d comes (λ at p l. l) (λ at. refl)
  where
    comes : (s : Stmt) (p : List Tok) → ContinueL s p → (at : Span) × (s ≡ Continue at) × JumpPart (Keyword key.Continue) at p
    comes (Continue at) p l = (at, refl, l)
    comes _ p l = absurd l

abbrev CancelPart : Span × Bool → Phrase
CancelPart = Two (One (fixed_span (Keyword key.Cancel))) (λ b. Seq (MaybeAttributeL b) (Is (Punctuator punct.Semicolon)))

pub cancel_exact : (d : ℕ) → Exact (λ D. cancel_stmt) CancelL StmtW Always Always d
cancel_exact d =
    value_of cancel_tree CancelL StmtW Always Always
    (two (take_exact (fixed_span (Keyword key.Cancel)) d) (before_exact (Punctuator punct.Semicolon) (maybe_attribute_exact d) ends) (λ a b p q l h. tt) (tail_begins (Punctuator punct.Semicolon) MaybeAttributeL maybe_attribute_begins))
    comes goes (λ x w. flat x) (λ x h c. tt)
  where
    ends : (b : Bool) (t : Tok) → t.terminal ≡ fixed (Punctuator punct.Semicolon) → MaybeAttributeS b (Some t)
    ends true t is = tt
    ends false t is = rw is refl

    comes : (s : Stmt) (p : List Tok) → CancelL s p → Comes cancel_tree CancelPart (λ x. Unit {0} × Unit {0}) (StmtW d) (λ x h. Unit {0}) Always s p
    comes (Cancel at) p l = record { value = (at, false); same = refl; spelled = seq_map l (λ q o. o) (λ q o. record { front = []; back = q; first = refl; second = o; whole = refl }); within = λ w. (tt, tt); stops = λ h s. tt }
    comes (CancelOuter at) p l = record { value = (at, true); same = refl; spelled = l; within = λ w. (tt, tt); stops = λ h s. tt }
    comes _ p l = absurd l

    goes : (x : Span × Bool) (p : List Tok) → CancelPart x p → CancelL (cancel_tree x) p
    goes (at, true) p l = l
    goes (at, false) p l = seq_map l (λ q o. o) (λ q o. un_seq_left o)

    flat : (x : Span × Bool) → StmtW d (cancel_tree x)
    flat (at, true) = omega arith
    flat (at, false) = omega arith

-- ---- `return`

abbrev pub ReturnL : Stmt → Phrase
ReturnL (Return e at) p = stmt (Return e at) p
ReturnL _ p = ⊥

abbrev ReturnPart : Span × Option Expr → Phrase
ReturnPart = Two (One (fixed_span (Keyword key.Return))) (λ e. Seq (optional expr e) (Is (Punctuator punct.Semicolon)))

pub return_stmt_exact : (d : ℕ) → Exact return_stmt ReturnL StmtW Always Always d
return_stmt_exact d =
    value_of (λ (x : Span × Option Expr). Return x.1 x.0) ReturnL StmtW Always Always
    (two (take_exact (fixed_span (Keyword key.Return)) d)
    (before_exact (Punctuator punct.Semicolon) (unless_exact (Punctuator punct.Semicolon) (whole_exact d) other) semicolon)
    (λ a b p q l h. tt) (tail_begins (Punctuator punct.Semicolon) (optional expr) (record { value = None; more = []; spelled = refl })))
    comes (λ x p l. l) (λ x w. deepens x.1 w.1) (λ x h c. tt)
  where
    other : (e : Expr) (p q : List Tok) → expr e p → is_next (Punctuator punct.Semicolon) (head (p ++ q)) ≡ false
    other e p q l = not_fixed (Punctuator punct.Semicolon) refl e p q l

    semicolon : (e : Option Expr) (t : Tok) → t.terminal ≡ fixed (Punctuator punct.Semicolon) → UnlessS (Punctuator punct.Semicolon) WholeS e (Some t)
    semicolon None t is = rw is refl
    semicolon (Some e) t is = closing_follows e t (Punctuator punct.Semicolon) is refl

    allows : (o : Option Expr) → optional_depth o + 1 ≤ suc d → MaybeW ExprW d o
    allows None w = tt
    allows (Some e) w = let h : expr_depth e + 1 ≤ suc d = w in omega arith

    deepens : (o : Option Expr) → MaybeW ExprW d o → optional_depth o + 1 ≤ suc d
    deepens None w = omega arith
    deepens (Some e) w = let h : expr_depth e ≤ d = w in omega arith

    comes : (y : Stmt) (p : List Tok) → ReturnL y p → Comes (λ (x : Span × Option Expr). Return x.1 x.0) ReturnPart (λ x. Unit {0} × MaybeW ExprW d x.1) (StmtW d) (λ x h. Unit {0}) Always y p
    comes (Return e at) p l = record { value = (at, e); same = refl; spelled = l; within = λ w. (tt, allows e w); stops = λ h s. tt }
    comes _ p l = absurd l

-- ---- with a semicolon behind it

abbrev pub DoesL : Stmt → Phrase
DoesL (Do s) p = stmt (Do s) p
DoesL _ p = ⊥

pub simple_stmt_exact : (d : ℕ) → Exact simple_stmt DoesL StmtW Always Always d
simple_stmt_exact d =
    value_of Do DoesL StmtW Always Always (before_exact (Punctuator punct.Semicolon) (shift_exact (simple_exact (suc d))) semicolon_ends) comes (λ x p l. l) (λ x w. w) (λ x h c. tt)
  where
    comes : (y : Stmt) (p : List Tok) → DoesL y p → Comes Do (λ s. Seq (simple s) (Is (Punctuator punct.Semicolon))) (λ s. simple_depth s ≤ suc d) (StmtW d) Always Always y p
    comes (Do s) p l = record { value = s; same = refl; spelled = l; within = λ w. w; stops = λ h s. tt }
    comes _ p l = absurd l

abbrev pub EmptyL : Stmt → Phrase
EmptyL Empty p = stmt Empty p
EmptyL _ p = ⊥

pub empty_stmt_exact : (d : ℕ) → Exact empty_stmt EmptyL StmtW Always Always d
empty_stmt_exact d = value_of (λ (x : Unit {0}). Empty) EmptyL StmtW Always Always (take_exact (the_fixed (Punctuator punct.Semicolon)) d) comes (λ x p l. l) (λ x w. omega arith) (λ x h c. tt)
  where
    comes : (y : Stmt) (p : List Tok) → EmptyL y p → Comes (λ (x : Unit {0}). Empty) (One (the_fixed (Punctuator punct.Semicolon))) (λ x. Unit {0}) (StmtW d) Always Always y p
    comes Empty p l = record { value = tt; same = refl; spelled = l; within = λ w. tt; stops = λ h s. tt }
    comes _ p l = absurd l
