-- The first unmet demand of what is left of a list, from a place on.
use Rattle.std.proofs.Common.{◌≡◌, ℕ, ◌+◌, ◌<◌, ◌≤◌, List, [], ◌∷◌, ◌++◌, length, drop, get_or, refl, sym, ap, ◌∙◌, arith}
use Rattle.std.proofs.lemmas.List.{at_drop_more, at_drop_all}
use Rattle.std.specs.Option.{option_or}
use Rattle.std.proofs.Common.{Option, None}
use Rattle.syntax.specs.declared.tree.Expr as E
use Rattle.syntax.specs.declared.tree.Name as N
use Rattle.syntax.specs.declared.tree.Simple as I
use Rattle.syntax.specs.declared.tree.Simple.TheVariants as J
use Rattle.syntax.specs.declared.tree.IncDec.{IncDec}
use Rattle.syntax.specs.Tree as Tree
use Rattle.syntax.specs.Tree.{Span}
use Rattle.syntax.specs.declared.tree.{BinaryOp.BinaryOp, LogicalOp.LogicalOp}
use Rattle.syntax.proofs.trees.Seen.{expr_of_call, expr_of_binary, expr_of_logical, expr_of_conditional}
use Rattle.syntax.specs.Views.{name_of, expr_of, exprs_of, simple_of}
use Rattle.syntax.specs.Types.{Scope}
use Rattle.syntax.specs.Typing.{count, may_be_function, takes_so_many}
use Rattle.syntax.specs.Typing.{first_unmet, IsTyped, IsNumber, AreNumbers, demand, IsKnown, IsTypedTarget, IsAssignable, IsTypedSimple}
use Rattle.types.proofs.Steps.{first_of_two, or_or}

-- the demands of a call
pub call_parts : (known : Scope) (x : Tree.Name) (es : Tree.Exprs) (at : Span) → first_unmet (IsTyped known (Tree.Call x es at)) ≡ option_or (first_unmet (IsKnown known x)) (option_or (first_unmet (AreNumbers known es)) (first_unmet (demand 22 at (may_be_function (known x.text)) ++ demand 23 x.span (takes_so_many (known x.text) (count es)))))
call_parts known x es at =
    let last = demand 22 at (may_be_function (known x.text)) ++ demand 23 x.span (takes_so_many (known x.text) (count es)) in
    first_of_two (IsKnown known x ++ AreNumbers known es) last ∙ ap (λ o. option_or o (first_unmet last)) (first_of_two (IsKnown known x) (AreNumbers known es)) ∙ or_or (first_unmet (IsKnown known x)) (first_unmet (AreNumbers known es)) (first_unmet last)

module _ {A : Type 0} where
  pub numbers_more : (known : Scope) (es : List (E.Expr A)) (i : ℕ) (e : E.Expr A) → e ≡ get_or es i e → i < length es → first_unmet (AreNumbers known (exprs_of (drop i es))) ≡ option_or (first_unmet (IsNumber known (expr_of e))) (first_unmet (AreNumbers known (exprs_of (drop (i + 1) es))))
  numbers_more known es i e is h = at_drop_more (λ xs. first_unmet (AreNumbers known (exprs_of xs))) es i e h ∙ first_of_two (IsNumber known (expr_of (get_or es i e))) (AreNumbers known (exprs_of (drop (i + 1) es))) ∙ ap (λ x. option_or (first_unmet (IsNumber known (expr_of x))) (first_unmet (AreNumbers known (exprs_of (drop (i + 1) es))))) (sym is)

  pub numbers_all : (known : Scope) (es : List (E.Expr A)) (i : ℕ) → length es ≤ i → first_unmet (AreNumbers known (exprs_of (drop i es))) ≡ None
  numbers_all known es i h = at_drop_all (λ xs. first_unmet (AreNumbers known (exprs_of xs))) es i h

  pub count_of : (es : List (E.Expr A)) → count (exprs_of es) ≡ length es
  count_of [] = refl
  count_of (e ∷ es) = let h = count_of es in omega (arith, h)

  -- the demands of an expression by its parts
  pub typed_call : (known : Scope) (e : E.Expr A) (f : N.Name A) (es : List (E.Expr A)) (at : Span) → e ≡ E.Call f es at → first_unmet (IsTyped known (expr_of e)) ≡ first_unmet (IsTyped known (Tree.Call (name_of f) (exprs_of es) at))
  typed_call known e f es at is = ap (λ x. first_unmet (IsTyped known (expr_of x))) is ∙ ap (λ x. first_unmet (IsTyped known x)) (expr_of_call f es at)

  pub typed_binary : (known : Scope) (e : E.Expr A) (op : BinaryOp) (a b : E.Expr A) (at : Span) → e ≡ E.Binary op a b at → first_unmet (IsTyped known (expr_of e)) ≡ option_or (first_unmet (IsNumber known (expr_of a))) (first_unmet (IsNumber known (expr_of b)))
  typed_binary known e op a b at is = ap (λ x. first_unmet (IsTyped known (expr_of x))) is ∙ ap (λ x. first_unmet (IsTyped known x)) (expr_of_binary op a b at) ∙ first_of_two (IsNumber known (expr_of a)) (IsNumber known (expr_of b))

  pub typed_logical : (known : Scope) (e : E.Expr A) (op : LogicalOp) (a b : E.Expr A) (at : Span) → e ≡ E.Logical op a b at → first_unmet (IsTyped known (expr_of e)) ≡ option_or (first_unmet (IsNumber known (expr_of a))) (first_unmet (IsNumber known (expr_of b)))
  typed_logical known e op a b at is = ap (λ x. first_unmet (IsTyped known (expr_of x))) is ∙ ap (λ x. first_unmet (IsTyped known x)) (expr_of_logical op a b at) ∙ first_of_two (IsNumber known (expr_of a)) (IsNumber known (expr_of b))

  pub typed_conditional : (known : Scope) (e : E.Expr A) (c a b : E.Expr A) (at : Span) → e ≡ E.Conditional c a b at → first_unmet (IsTyped known (expr_of e)) ≡ option_or (first_unmet (IsNumber known (expr_of c))) (option_or (first_unmet (IsNumber known (expr_of a))) (first_unmet (IsNumber known (expr_of b))))
  typed_conditional known e c a b at is = ap (λ x. first_unmet (IsTyped known (expr_of x))) is ∙ ap (λ x. first_unmet (IsTyped known x)) (expr_of_conditional c a b at) ∙ first_of_two (IsNumber known (expr_of c) ++ IsNumber known (expr_of a)) (IsNumber known (expr_of b)) ∙ ap (λ o. option_or o (first_unmet (IsNumber known (expr_of b)))) (first_of_two (IsNumber known (expr_of c)) (IsNumber known (expr_of a))) ∙ or_or (first_unmet (IsNumber known (expr_of c))) (first_unmet (IsNumber known (expr_of a))) (first_unmet (IsNumber known (expr_of b)))

  pub typed_assign : (known : Scope) (s : I.Simple A) (to : E.Expr A) (op : Option BinaryOp) (e : E.Expr A) → s ≡ J.Assign to op e → first_unmet (IsTypedSimple known (simple_of s)) ≡ option_or (first_unmet (IsTypedTarget known (expr_of to))) (option_or (first_unmet (IsNumber known (expr_of e))) (first_unmet (IsAssignable known (expr_of to))))
  typed_assign known s to op e is = ap (λ x. first_unmet (IsTypedSimple known (simple_of x))) is ∙ first_of_two (IsTypedTarget known (expr_of to) ++ IsNumber known (expr_of e)) (IsAssignable known (expr_of to)) ∙ ap (λ o. option_or o (first_unmet (IsAssignable known (expr_of to)))) (first_of_two (IsTypedTarget known (expr_of to)) (IsNumber known (expr_of e))) ∙ or_or (first_unmet (IsTypedTarget known (expr_of to))) (first_unmet (IsNumber known (expr_of e))) (first_unmet (IsAssignable known (expr_of to)))

  pub typed_step : (known : Scope) (s : I.Simple A) (to : E.Expr A) (by : IncDec) → s ≡ J.Adjust to by → first_unmet (IsTypedSimple known (simple_of s)) ≡ option_or (first_unmet (IsTypedTarget known (expr_of to))) (first_unmet (IsAssignable known (expr_of to)))
  typed_step known s to by is = ap (λ x. first_unmet (IsTypedSimple known (simple_of x))) is ∙ first_of_two (IsTypedTarget known (expr_of to)) (IsAssignable known (expr_of to))
