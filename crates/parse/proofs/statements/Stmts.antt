-- Statements and blocks are read exactly.
use Rattle.std.proofs.Common.{◌≡◌, ℕ, zero, suc, ◌≤◌, true, false, List, [], ◌∷◌, ◌++◌, Some, None, Err, refl, sym, ap, subst, ◌∙◌, arith, inl, inr}
use Rattle.lex.specs.declared.token.Fixed.{Fixed}
use Rattle.lex.specs.declared.token.Fixed.TheVariants.{Keyword, Punctuator}
use Rattle.lex.specs.declared.token.Keyword.TheVariants as key
use Rattle.lex.specs.declared.token.Punctuator.TheVariants as punct
use Rattle.lex.specs.declared.token.Span.{Span}
use Rattle.lex.specs.Tokens.{Terminal, name, constant, string_literal, fixed, reserved, Tok}
use Rattle.syntax.specs.declared.tree.TransactionKind.TheVariants.{Plain}
use Rattle.syntax.specs.declared.tree.Mode.TheVariants.{Atomic, Relaxed}
use Rattle.syntax.specs.Tree as Tree
use Rattle.syntax.specs.Tree.{Expr, Simple, Evaluate, Assign, Adjust, Stmt, Empty, Declare, Do, Block, Print, If, IfElse, While, DoWhile, For, Break, Continue, Return, Transaction, Cancel, CancelOuter}
use Rattle.syntax.specs.Depth.{stmt_depth, block_depth}
use Rattle.syntax.specs.Views.{stmts_from}
use Rattle.syntax.specs.Phrases.{Phrase, Seq, One, Is, IsAt, Begins}
use Rattle.syntax.specs.Grammar as Grammar
use Rattle.syntax.specs.Grammar.{optional, expr, further, the_text, stmt, ends_open}
use Rattle.parse.specs.declared.lead.Lead.{Lead}
use Rattle.parse.specs.declared.lead.Lead.TheVariants as lead
use Rattle.parse.specs.inner.Reading.{wrong, deep, Parser, head, is_next}
use Rattle.parse.specs.inner.Statements.{for_tree, starts_simple, lead_at, starts_stmt, entry, stmt_of, any_stmt, block_items, stmt_at, block_at}
use Rattle.parse.proofs.combinators.Exact.{Exact, Always, Two, restated}
use Rattle.parse.proofs.combinators.FixedTokens.{that_fixed, fixed_has, one_begins}
use Rattle.parse.proofs.combinators.Parts.{fixed_has_span, head_begins}
use Rattle.parse.proofs.combinators.Choices.{kinds_exact}
use Rattle.parse.proofs.code.Braces.{expect_not}
use Rattle.parse.proofs.combinators.Starts.{stops_exact}
use Rattle.parse.proofs.combinators.Knot.{knot_exact, base_exact}
use Rattle.parse.proofs.statements.Leads.{OpenS, made, LeadsTo, lead_of, stmt_lead, simple_lead, simple_stmt_starts, stmt_solid}
use Rattle.parse.proofs.statements.Entries.{Within, Below, BlockL, BlockW, InnerL, inner_begins, block_begins, entry_exact, braced_exact}
use Rattle.parse.proofs.statements.Compounds.{IfL, WhileL, DoL, ForL, NestedL, UntilL, HeadL, body_begins, until_begins, for_begins, head_goes, if_stmt_exact, while_stmt_exact, do_stmt_exact, for_stmt_exact, block_stmt_exact}
use Rattle.parse.proofs.statements.Transactions.{BegunL, begun_stmt, begun_ends, transaction_stmt_exact}
use Rattle.parse.proofs.statements.Simples.{simple_exact, simple_first, simple_starts}
use Rattle.parse.proofs.statements.Leaves.{EmptyL, PrintL, BreakL, ContinueL, CancelL, ReturnL, DoesL, empty_stmt_exact, print_stmt_exact, break_exact, continue_exact, cancel_exact, return_stmt_exact, simple_stmt_exact}

-- ---- one deeper

-- statements of a kind
abbrev LeadL : Lead → Stmt → Phrase
LeadL lead.Empty = EmptyL
LeadL lead.Block = NestedL
LeadL lead.Print = PrintL
LeadL lead.If = IfL
LeadL lead.While = WhileL
LeadL lead.Do = DoL
LeadL lead.For = ForL
LeadL lead.Break = BreakL
LeadL lead.Continue = ContinueL
LeadL lead.Return = ReturnL
LeadL (lead.Transaction mode) = BegunL mode
LeadL lead.Cancel = CancelL
LeadL lead.Simple = DoesL

keep : (k : Lead) (s : Stmt) (p : List Tok) → LeadL k s p → stmt s p
keep lead.Empty Empty p l = l
keep lead.Empty _ p l = absurd l
keep lead.Block (Block ss) p l = l
keep lead.Block _ p l = absurd l
keep lead.Print (Print at t t_at es) p l = l
keep lead.Print _ p l = absurd l
keep lead.If (If c a) p l = l
keep lead.If (IfElse c a b) p l = l
keep lead.If _ p l = absurd l
keep lead.While (While c a) p l = l
keep lead.While _ p l = absurd l
keep lead.Do (DoWhile a c) p l = l
keep lead.Do _ p l = absurd l
keep lead.For (For first c step a) p l = l
keep lead.For _ p l = absurd l
keep lead.Break (Break at) p l = l
keep lead.Break _ p l = absurd l
keep lead.Continue (Continue at) p l = l
keep lead.Continue _ p l = absurd l
keep lead.Return (Return e at) p l = l
keep lead.Return _ p l = absurd l
keep (lead.Transaction mode) s p l = begun_stmt mode s p l
keep lead.Cancel (Cancel at) p l = l
keep lead.Cancel (CancelOuter at) p l = l
keep lead.Cancel _ p l = absurd l
keep lead.Simple (Do s) p l = l
keep lead.Simple _ p l = absurd l

-- an expression or an assignment is of the kind that its first token says
simple_led : (s : Simple) (p q : List Tok) → stmt (Do s) p → (k : Lead) → LeadsTo (head (p ++ q)) k → LeadL k (Do s) p
simple_led s p q l k (inl is) = rw is l
simple_led s [] q l k (inr x) = absurd (stmt_solid (Do s) [] l)
simple_led s (t ∷ p) q l k (inr x) = rw x.1 (inr (l, x.2))

-- so is each statement
led : (s : Stmt) (p q : List Tok) → stmt s p → LeadL (lead_of s (head (p ++ q))) s p
led Empty p q l = l
led (Declare x) p q l = absurd l
led (Do s) p q l = simple_led s p q l (lead_at (head (p ++ q))) (simple_lead (head (p ++ q)) (simple_stmt_starts s p q l))
led (Block ss) p q l = l
led (Print at t t_at es) p q l = l
led (If c a) p q l = l
led (IfElse c a b) p q l = l
led (While c a) p q l = l
led (DoWhile a c) p q l = l
led (For first c step a) p q l = l
led (Break at) p q l = l
led (Continue at) p q l = l
led (Return e at) p q l = l
led (Transaction k ss at) p q l = inl (refl, l)
led (Cancel at) p q l = l
led (CancelOuter at) p q l = l

-- no else belongs to a statement that has none in it
module _ {P : ℕ → Parser Stmt} {L : Stmt → List Tok → Type 0} {d : ℕ} (E : Exact P L Below Always Always d) (ends : (s : Stmt) (p : List Tok) → L s p → ends_open s ≡ false) where
  leaf : Exact P L Below OpenS OpenS d
  leaf = restated L Below OpenS OpenS E (λ s p l. l) (λ s p l. l) (λ s p l w. w) (λ s p l w. w) (λ s p h l o. tt) (λ s p h l c o. absurd (let bad : true ≡ false = sym o ∙ ends s p l in cc))

empty_stmt_ends : (s : Stmt) (p : List Tok) → EmptyL s p → ends_open s ≡ false
empty_stmt_ends Empty p l = refl
empty_stmt_ends _ p l = absurd l

print_stmt_ends : (s : Stmt) (p : List Tok) → PrintL s p → ends_open s ≡ false
print_stmt_ends (Print at t t_at es) p l = refl
print_stmt_ends _ p l = absurd l

break_ends : (s : Stmt) (p : List Tok) → BreakL s p → ends_open s ≡ false
break_ends (Break at) p l = refl
break_ends _ p l = absurd l

continue_ends : (s : Stmt) (p : List Tok) → ContinueL s p → ends_open s ≡ false
continue_ends (Continue at) p l = refl
continue_ends _ p l = absurd l

cancel_ends : (s : Stmt) (p : List Tok) → CancelL s p → ends_open s ≡ false
cancel_ends (Cancel at) p l = refl
cancel_ends (CancelOuter at) p l = refl
cancel_ends _ p l = absurd l

return_stmt_ends : (s : Stmt) (p : List Tok) → ReturnL s p → ends_open s ≡ false
return_stmt_ends (Return e at) p l = refl
return_stmt_ends _ p l = absurd l

simple_stmt_ends : (s : Stmt) (p : List Tok) → DoesL s p → ends_open s ≡ false
simple_stmt_ends (Do s) p l = refl
simple_stmt_ends _ p l = absurd l

module _ (P : ℕ → Parser Stmt) (B : ℕ → Parser (List Stmt)) (d : ℕ) (E : Exact P stmt Within OpenS OpenS d) (EB : Exact B BlockL BlockW Always Always d) where
  kind_exact : (k : Lead) → Exact (λ D. stmt_of D (P D) (B D) k) (LeadL k) Below OpenS OpenS d
  kind_exact lead.Empty = leaf (empty_stmt_exact d) empty_stmt_ends
  kind_exact lead.Block = block_stmt_exact P d E B
  kind_exact lead.Print = leaf (print_stmt_exact d) print_stmt_ends
  kind_exact lead.If = if_stmt_exact P d E B
  kind_exact lead.While = while_stmt_exact P d E B
  kind_exact lead.Do = do_stmt_exact P d E B
  kind_exact lead.For = for_stmt_exact P d E B
  kind_exact lead.Break = leaf (break_exact d) break_ends
  kind_exact lead.Continue = leaf (continue_exact d) continue_ends
  kind_exact lead.Return = leaf (return_stmt_exact d) return_stmt_ends
  kind_exact (lead.Transaction mode) = leaf (transaction_stmt_exact mode P B d EB) (begun_ends mode)
  kind_exact lead.Cancel = leaf (cancel_exact d) cancel_ends
  kind_exact lead.Simple = leaf (simple_stmt_exact d) simple_stmt_ends

  any_exact : Exact (λ D. any_stmt D (P D) (B D)) stmt Below OpenS OpenS d
  any_exact =
      kinds_exact lead_at (λ k D. stmt_of D (P D) (B D) k) LeadL stmt OpenS kind_exact
      (λ s p q l h. subst (λ (k : Lead). LeadL k s p) (sym (stmt_lead s p q l)) (led s p q l)) keep (λ s p r l c. c)

-- ---- what a statement's first token begins

from_fixed : {A : Type 0} {M : A → List Tok → Type 0} (k : Fixed) (t : Tok) → t.terminal ≡ fixed k → Begins M [] → Begins (λ x. Seq (Is k) (M x)) (t ∷ [])
from_fixed k t is b = record { value = b.value; more = b.more; spelled = record { front = t ∷ []; back = b.more; first = record { token = t; has = fixed_has k t is; whole = refl }; second = b.spelled; whole = refl } }

from_span : {A : Type 0} {M : A → List Tok → Type 0} (k : Fixed) (t : Tok) → t.terminal ≡ fixed k → Begins M [] → Begins (λ x. Seq (IsAt k t.span) (M x)) (t ∷ [])
from_span k t is b = record { value = b.value; more = b.more; spelled = record { front = t ∷ []; back = b.more; first = record { token = t; has = fixed_has_span k t (fixed_has k t is); whole = refl }; second = b.spelled; whole = refl } }

as_stmt : {A : Type 0} {L : A → List Tok → Type 0} {q : List Tok} (f : A → Stmt) → ((x : A) (p : List Tok) → L x p → stmt (f x) p) → Begins L q → Begins stmt q
as_stmt {q = q} f goes b = record { value = f b.value; more = b.more; spelled = goes b.value (q ++ b.more) b.spelled }

simple_stmt_begun : (t : Tok) → starts_simple (Some t) ≡ true → Begins stmt (t ∷ [])
simple_stmt_begun t h =
    let b = simple_starts t h in
    let e = one_begins (Punctuator punct.Semicolon) in
    record { value = Do b.value; more = b.more ++ e.more; spelled = record { front = t ∷ b.more; back = e.more; first = b.spelled; second = e.spelled; whole = refl } }

abbrev FormatL : List ℕ × Span → Phrase
FormatL x = Seq (Is (Punctuator punct.OpenParen)) (Seq (One the_text x) (Seq (further Tree.[]) (Seq (Is (Punctuator punct.CloseParen)) (Is (Punctuator punct.Semicolon)))))

format_begins : Begins FormatL []
format_begins =
    let at : Span = record { start = 0; «end» = 0 } in
    let t : Tok = record { terminal = string_literal []; span = at } in
    let c = one_begins (Punctuator punct.CloseParen) in
    let e = one_begins (Punctuator punct.Semicolon) in
    head_begins (Punctuator punct.OpenParen) (λ x. Seq (One the_text x) (Seq (further Tree.[]) (Seq (Is (Punctuator punct.CloseParen)) (Is (Punctuator punct.Semicolon))))) (record {
      value = ([], at);
      more = t ∷ (c.more ++ e.more);
      spelled = record {
        front = t ∷ [];
        back = c.more ++ e.more;
        first = record { token = t; has = refl; whole = refl };
        second = record { front = []; back = c.more ++ e.more; first = refl; second = record { front = c.more; back = e.more; first = c.spelled; second = e.spelled; whole = refl }; whole = refl };
        whole = refl;
      };
    })

nothing_begins : Begins (λ (x : Unit {0}). Seq (optional expr None) (Is (Punctuator punct.Semicolon))) []
nothing_begins = let e = one_begins (Punctuator punct.Semicolon) in record { value = tt; more = e.more; spelled = record { front = []; back = e.more; first = refl; second = e.spelled; whole = refl } }

stmt_begun : (t : Tok) → starts_stmt (Some t) ≡ true → Begins stmt (t ∷ [])
stmt_begun t h = go t.terminal refl h
  where
    plain : (k : Terminal) → t.terminal ≡ k → starts_simple (Some (made k t.span)) ≡ true → Begins stmt (t ∷ [])
    plain k is h = simple_stmt_begun t (subst (λ (z : Terminal). starts_simple (Some (made z t.span)) ≡ true) (sym is) h)

    alone_stmt : (k : Fixed) (tree : Span → Stmt) → ((p : List Tok) → Seq (IsAt k t.span) (Is (Punctuator punct.Semicolon)) p → stmt (tree t.span) p) → t.terminal ≡ fixed k → Begins stmt (t ∷ [])
    alone_stmt k tree goes is = as_stmt (λ x. tree t.span) (λ x p l. goes p l) (from_span {M = λ (x : Unit {0}). Is (Punctuator punct.Semicolon)} k t is (one_begins (Punctuator punct.Semicolon)))

    go : (k : Terminal) → t.terminal ≡ k → starts_stmt (Some (made k t.span)) ≡ true → Begins stmt (t ∷ [])
    go (fixed (Punctuator punct.Semicolon)) is h = record { value = Empty; more = []; spelled = record { token = t; has = fixed_has (Punctuator punct.Semicolon) t is; whole = refl } }
    go (fixed (Punctuator punct.OpenBrace)) is h = as_stmt (λ xs. Block (stmts_from xs)) (λ x p l. l) (from_fixed {M = InnerL} (Punctuator punct.OpenBrace) t is inner_begins)
    go (fixed (Keyword key.Printf)) is h = as_stmt (λ x. Print t.span x.0 x.1 Tree.[]) (λ x p l. l) (from_span {M = FormatL} (Keyword key.Printf) t is format_begins)
    go (fixed (Keyword key.If)) is h = as_stmt (λ (x : Expr × Stmt). If x.0 x.1) (λ x p l. l) (from_fixed {M = Two Grammar.in_parens stmt} (Keyword key.If) t is body_begins)
    go (fixed (Keyword key.While)) is h = as_stmt (λ (x : Expr × Stmt). While x.0 x.1) (λ x p l. l) (from_fixed {M = Two Grammar.in_parens stmt} (Keyword key.While) t is body_begins)
    go (fixed (Keyword key.Do)) is h = as_stmt (λ (x : Stmt × Expr). DoWhile x.0 x.1) (λ x p l. l) (from_fixed {M = Two stmt UntilL} (Keyword key.Do) t is until_begins)
    go (fixed (Keyword key.For)) is h = as_stmt for_tree (λ x p l. head_goes x.0.0 x.0.1.0 x.0.1.1 x.1 p l) (from_fixed {M = Two HeadL stmt} (Keyword key.For) t is for_begins)
    go (fixed (Keyword key.Break)) is h = alone_stmt (Keyword key.Break) Break (λ p l. l) is
    go (fixed (Keyword key.Continue)) is h = alone_stmt (Keyword key.Continue) Continue (λ p l. l) is
    go (fixed (Keyword key.Cancel)) is h = alone_stmt (Keyword key.Cancel) Cancel (λ p l. l) is
    go (fixed (Keyword key.Return)) is h = as_stmt (λ x. Return None t.span) (λ x p l. l) (from_span (Keyword key.Return) t is nothing_begins)
    go (fixed (Keyword key.Atomic)) is h = as_stmt (λ xs. Transaction (Plain Atomic) (stmts_from xs) t.span) (λ x p l. l) (from_span {M = BlockL} (Keyword key.Atomic) t is block_begins)
    go (fixed (Keyword key.Relaxed)) is h = as_stmt (λ xs. Transaction (Plain Relaxed) (stmts_from xs) t.span) (λ x p l. l) (from_span {M = BlockL} (Keyword key.Relaxed) t is block_begins)
    go (fixed _) is h = plain _ is h
    go (name s) is h = plain (name s) is h
    go (constant n ty) is h = plain (constant n ty) is h
    go (string_literal s) is h = plain (string_literal s) is h
    go reserved is h = plain reserved is h

-- ---- at depth 0

stmt_positive : (s : Stmt) → stmt_depth s ≤ 0 → ⊥
stmt_positive (Do (Evaluate e)) w = omega arith
stmt_positive (Do (Assign to op e)) w = omega arith
stmt_positive (Do (Adjust to by)) w = omega arith
stmt_positive (Block Tree.[]) w = omega arith
stmt_positive (Block (Tree.◌∷◌ s ss)) w = omega arith
stmt_positive _ w = omega arith

block_positive : (ss : List Stmt) → block_depth (stmts_from ss) ≤ 0 → ⊥
block_positive [] w = omega arith
block_positive (s ∷ ss) w = omega arith

stmt_too_deep : (ts : List Tok) → starts_stmt (head ts) ≡ true → stmt_at 0 ts ≡ Err (deep ts)
unfolding stmt_at
stmt_too_deep ts h = rw h refl

block_too_deep : (ts : List Tok) → is_next (Punctuator punct.OpenBrace) (head ts) ≡ true → block_at 0 ts ≡ Err (deep ts)
unfolding block_at
block_too_deep ts h = rw h refl

block_stops : (D : ℕ) (ts : List Tok) → is_next (Punctuator punct.OpenBrace) (head ts) ≡ false → block_at D ts ≡ Err (wrong ts)
unfolding block_at
block_stops zero ts h = rw h refl
block_stops (suc d) ts h = rw (expect_not (Punctuator punct.OpenBrace) ts h) refl

block_starts : (t : Tok) → is_next (Punctuator punct.OpenBrace) (Some t) ≡ true → Begins BlockL (t ∷ [])
block_starts t h = from_fixed {M = InnerL} (Punctuator punct.OpenBrace) t (that_fixed (Punctuator punct.OpenBrace) t h) inner_begins

stmt_stops : (D : ℕ) (ts : List Tok) → starts_stmt (head ts) ≡ false → stmt_at D ts ≡ Err (wrong ts)
unfolding stmt_at
stmt_stops zero ts h = rw h refl
stmt_stops (suc d) ts h = go (lead_at (head ts)) refl
  where
    plain : lead_at (head ts) ≡ lead.Simple → starts_simple (head ts) ≡ false → stmt_at (suc d) ts ≡ Err (wrong ts)
    plain is n = let e = stops_exact starts_simple (simple_exact (suc d)) simple_first ts n in rw (is, e) refl

    go : (k : Lead) → lead_at (head ts) ≡ k → stmt_at (suc d) ts ≡ Err (wrong ts)
    go lead.Simple is = plain is (rw is at h)
    go _ is = absurd (let bad : true ≡ false = rw is at h in cc)

-- ---- at every depth

stmt_step : (d : ℕ) → Exact stmt_at stmt Within OpenS OpenS d → Exact block_at BlockL BlockW Always Always d → Exact stmt_at stmt Within OpenS OpenS (suc d)
unfolding stmt_at
stmt_step d E EB =
    knot_exact stmt_at (λ b. any_stmt b (stmt_at b) (block_at b)) stmt Within OpenS OpenS
    (λ D b ts e. let n : D ≡ suc b = omega arith in ap (λ (n : ℕ). stmt_at n ts) n)
    d (any_exact stmt_at block_at d E EB)

block_step : (d : ℕ) → Exact stmt_at stmt Within OpenS OpenS d → Exact block_at BlockL BlockW Always Always (suc d)
unfolding block_at
block_step d E =
    knot_exact block_at (λ b. block_items (entry b (stmt_at b))) BlockL BlockW Always Always
    (λ D b ts e. let n : D ≡ suc b = omega arith in ap (λ (n : ℕ). block_at n ts) n)
    d (braced_exact (λ D. entry D (stmt_at D)) d (entry_exact stmt_at d E))

both_exact : (d : ℕ) → Exact stmt_at stmt Within OpenS OpenS d × Exact block_at BlockL BlockW Always Always d
both_exact zero = (
  base_exact stmt_at (λ b. stmt_at (suc b)) stmt Within OpenS OpenS
      (λ D b ts e. let n : D ≡ suc b = omega arith in ap (λ (n : ℕ). stmt_at n ts) n)
      starts_stmt stmt_stops stmt_too_deep stmt_begun refl stmt_positive,
  base_exact block_at (λ b. block_at (suc b)) BlockL BlockW Always Always
      (λ D b ts e. let n : D ≡ suc b = omega arith in ap (λ (n : ℕ). block_at n ts) n)
      (is_next (Punctuator punct.OpenBrace)) block_stops block_too_deep block_starts refl block_positive,
)
both_exact (suc d) = let I = both_exact d in (stmt_step d I.0 I.1, block_step d I.0)

-- So are statements and declarations in braces.
pub block_exact : (d : ℕ) → Exact block_at BlockL BlockW Always Always d
block_exact d = (both_exact d).1
