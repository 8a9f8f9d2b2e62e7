-- The instructions of statements one after another.
use Rattle.std.proofs.Common.{◌≡◌, ℕ, ◌+◌, ◌<◌, ◌≤◌, List, ◌∷◌, ◌++◌, length, drop, get_or, Ok, sym, ap, arith, ◌∙◌, append_assoc, append-nil}
use Rattle.std.proofs.lemmas.List.{at_drop_more, drop_all}
use Rattle.syntax.specs.declared.tree.Stmt.{Stmt as OwnStmt}
use Rattle.syntax.specs.Tree.{Program}
use Rattle.syntax.specs.Views.{stmt_of, stmts_of}
use Rattle.bytecode.specs.declared.instr.Instr.{Instr}
use Rattle.lower_spec.specs.Expressions.{LocalScope}
use Rattle.lower_spec.specs.Statements.{locals_after}
use Rattle.lower_spec.specs.inner.Locals.{locals_at_end}
use Rattle.selection.specs.declared.locations.Exits.{Exits}
use Rattle.selection.specs.Lists.{Lists}
use Rattle.selection.specs.Simples.{Written, and_then}
use Rattle.selection.specs.Statements.{stmt_code, stmts_code}
use Rattle.selection.proofs.GrowingStmts.{stmts_more}
use Rattle.lower_exprs.specs.Fragments.{Adds, of_written}
use Rattle.lower_exprs.proofs.Adding.{written_behind}

module _ {A : Type 0} (ys : List (OwnStmt A)) (i : ℕ) (scope : LocalScope) where
  pub next_scope : (y : OwnStmt A) (whole scope' : LocalScope) → i < length ys → y ≡ get_or ys i y → scope' ≡ locals_after (stmt_of y) scope → locals_at_end (stmts_of (drop i ys)) scope ≡ whole → locals_at_end (stmts_of (drop (i + 1) ys)) scope' ≡ whole
  next_scope y whole scope' h is es inv =
      ap (λ s. locals_at_end (stmts_of (drop (i + 1) ys)) s) es
      ∙ sym (at_drop_more (λ xs. locals_at_end (stmts_of xs) scope) ys i y h ∙ ap (λ x. locals_at_end (stmts_of (x ∷ drop (i + 1) ys)) scope) (sym is))
      ∙ inv

  pub last_scope : (whole : LocalScope) → length ys ≤ i → locals_at_end (stmts_of (drop i ys)) scope ≡ whole → scope ≡ whole
  last_scope whole h inv = sym (ap (λ xs. locals_at_end (stmts_of xs) scope) (drop_all i ys h)) ∙ inv

module _ (p : Program) (exits : Exits) {A : Type 0} (ys : List (OwnStmt A)) (i to : ℕ) (scope : LocalScope) (l : Lists) (code : List Instr) (whole : Written) where
  row : ℕ → LocalScope → ℕ → Lists → Written
  row j s k m = stmts_code p (stmts_of (drop j ys)) exits s k m

  module _ (y : OwnStmt A) (h : i < length ys) (is : y ≡ get_or ys i y) (inv : written_behind code (stmts_code p (stmts_of (drop i ys)) exits scope to l) ≡ whole) where
    abbrev First : Written
    First = stmt_code p (stmt_of y) exits scope to l

    abbrev Behind : LocalScope
    Behind = locals_after (stmt_of y) scope

    here : row i scope to l ≡ and_then First (row (i + 1) Behind First.to First.lists)
    unfolding row
    here =
        at_drop_more (λ xs. stmts_code p (stmts_of xs) exits scope to l) ys i y h
        ∙ ap (λ x. stmts_code p (stmts_of (x ∷ drop (i + 1) ys)) exits scope to l) (sym is)

    pub next_stmt : {scope' : LocalScope} {code' : List Instr} {to' : ℕ} {l' : Lists} → scope' ≡ locals_after (stmt_of y) scope → Adds (of_written (stmt_code p (stmt_of y) exits scope to l)) code code' l' (Ok to') →
        written_behind code' (stmts_code p (stmts_of (drop (i + 1) ys)) exits scope' to' l') ≡ whole
    unfolding row
    next_stmt {code' = code'} es k =
        let rest = row (i + 1) Behind First.to First.lists in
        let there : written_behind code' (row (i + 1) _ _ _) ≡ written_behind (code ++ First.code) rest = (λ j. written_behind (k.code j) (row (i + 1) (es j) (k.end j) (k.lists j))) in
        there
        ∙ (λ j. record rest { code = append_assoc code First.code rest.code j })
        ∙ sym (ap (written_behind code) here)
        ∙ inv

    -- the first one needs no more registers than all
    pub first_within : First.lists.registers ≤ whole.lists.registers
    unfolding row
    first_within =
        let a = stmts_more p (stmts_of (drop (i + 1) ys)) exits Behind First.to First.lists in
        let b = ap (λ (w : Written). w.lists.registers) here in
        let d = ap (λ (w : Written). w.lists.registers) inv in
        omega (arith, a, b, d)

  pub no_more_stmts : length ys ≤ i → written_behind code (stmts_code p (stmts_of (drop i ys)) exits scope to l) ≡ whole → record { code = code; lists = l; to = to } ≡ whole
  no_more_stmts h inv =
      (λ j. record { code = sym (append-nil code) j; lists = l; to = to })
      ∙ sym (ap (λ xs. written_behind code (stmts_code p (stmts_of xs) exits scope to l)) (drop_all i ys h))
      ∙ inv
