-- The locals that are known before a statement are a front of those behind it.
use Rattle.std.proofs.Common.{◌≡◌, ℕ, ◌+◌, ◌≤◌, List, [], ◌∷◌, ◌++◌, length, take, sym, ap, ◌∙◌, append_assoc, append-nil, length-append, arith, refl}
use Rattle.std.proofs.Math.Seq.{take-append_seam}
use Rattle.lex.specs.declared.token.Scalar.{Scalar}
use Rattle.syntax.specs.Tree.{Declarator, Start, Nothing, Declares, Does, Stmt, Stmts, Empty, Declare, Do, Block, Print, If, IfElse, While, DoWhile, For, Break, Continue, Return, Transaction, Cancel, CancelOuter}
use Rattle.lower_spec.specs.Expressions.{LocalScope}
use Rattle.lower_spec.specs.Statements.{with_local, with_declared, locals_of_start, locals_after}
use Rattle.lower_spec.specs.inner.Locals.{locals_at_end}

Grows : LocalScope → LocalScope → Type 0
Grows before after = (more : LocalScope) × (after ≡ before ++ more)

grows_not : (scope : LocalScope) → Grows scope scope
unfolding Grows
grows_not scope = ([], sym (append-nil scope))

grows_twice : (a b c : LocalScope) → Grows a b → Grows b c → Grows a c
unfolding Grows
grows_twice a b c h k = (h.0 ++ k.0, k.1 ∙ ap (λ x. x ++ k.0) h.1 ∙ append_assoc a h.0 k.0)

grows_declared : (t : Scalar) (ds : List Declarator) (scope : LocalScope) → Grows scope (with_declared t ds scope)
unfolding Grows
grows_declared t [] scope = grows_not scope
grows_declared t (d ∷ ds) scope = grows_twice scope (with_local scope d.name.text t) _ (record { name = d.name.text; ty = t; word = 0 } ∷ [], refl) (grows_declared t ds (with_local scope d.name.text t))

grows_start : (start : Start) (scope : LocalScope) → Grows scope (locals_of_start start scope)
grows_start Nothing scope = grows_not scope
grows_start (Declares d) scope = grows_declared d.ty d.declarators scope
grows_start (Does s) scope = grows_not scope

grows_stmt : (s : Stmt) (scope : LocalScope) → Grows scope (locals_after s scope)
grows_stmt Empty scope = grows_not scope
grows_stmt (Declare d) scope = grows_declared d.ty d.declarators scope
grows_stmt (Do s) scope = grows_not scope
grows_stmt (Block ss) scope = grows_not scope
grows_stmt (Print at format format_at es) scope = grows_not scope
grows_stmt (If c a) scope = grows_not scope
grows_stmt (IfElse c a b) scope = grows_not scope
grows_stmt (While c a) scope = grows_not scope
grows_stmt (DoWhile a c) scope = grows_not scope
grows_stmt (For start c step a) scope = grows_not scope
grows_stmt (Break at) scope = grows_not scope
grows_stmt (Continue at) scope = grows_not scope
grows_stmt (Return e at) scope = grows_not scope
grows_stmt (Transaction kind ss at) scope = grows_not scope
grows_stmt (Cancel at) scope = grows_not scope
grows_stmt (CancelOuter at) scope = grows_not scope

grows_stmts : (ss : Stmts) (scope : LocalScope) → Grows scope (locals_at_end ss scope)
grows_stmts Stmts.[] scope = grows_not scope
grows_stmts (Stmts.◌∷◌ s ss) scope = grows_twice scope (locals_after s scope) _ (grows_stmt s scope) (grows_stmts ss (locals_after s scope))

module _ (before after now : LocalScope) (outer : ℕ) (len : outer ≡ length before) (is : now ≡ after) (g : Grows before after) where
  longer : outer ≤ length now
  unfolding Grows
  longer = let e : length now ≡ length before + length g.0 = ap length (is ∙ g.1) ∙ length-append before g.0 in omega (arith, len, e)

  left : take outer now ≡ before
  unfolding Grows
  left = (λ j. take (len j) ((is ∙ g.1) j)) ∙ take-append_seam before g.0

module _ (before now : LocalScope) (outer : ℕ) (len : outer ≡ length before) where
  pub start_longer : (start : Start) → now ≡ locals_of_start start before → outer ≤ length now
  start_longer start is = longer before _ now outer len is (grows_start start before)

  pub start_left : (start : Start) → now ≡ locals_of_start start before → take outer now ≡ before
  start_left start is = left before _ now outer len is (grows_start start before)

  pub stmt_longer : (s : Stmt) → now ≡ locals_after s before → outer ≤ length now
  stmt_longer s is = longer before _ now outer len is (grows_stmt s before)

  pub stmt_left : (s : Stmt) → now ≡ locals_after s before → take outer now ≡ before
  stmt_left s is = left before _ now outer len is (grows_stmt s before)

  pub stmts_longer : (ss : Stmts) → now ≡ locals_at_end ss before → outer ≤ length now
  stmts_longer ss is = longer before _ now outer len is (grows_stmts ss before)

  pub stmts_left : (ss : Stmts) → now ≡ locals_at_end ss before → take outer now ≡ before
  stmts_left ss is = left before _ now outer len is (grows_stmts ss before)
