-- The demands of a statement by its parts.
use Rattle.std.proofs.Common.{◌≡◌, ℕ, ◌+◌, ◌<◌, List, [], ◌∷◌, ◌++◌, length, map, drop, get_or, option_map, Option, Some, None, Bool, true, false, not, ◌&&◌, ◌||◌, is_none, refl, sym, ap, ◌∙◌}
use Rattle.std.proofs.lemmas.List.{at_drop_more}
use Rattle.std.specs.Option.{option_or}
use Rattle.lex.specs.declared.token.Scalar.{Scalar}
use Rattle.syntax.specs.Tree.{Span, Stmts, Function, Item, Defines}
use Rattle.syntax.specs.declared.tree.TransactionKind.{TransactionKind}
use Rattle.syntax.specs.declared.tree.Expr as E
use Rattle.syntax.specs.declared.tree.ForHead as H
use Rattle.syntax.specs.declared.tree.Declaration as D
use Rattle.syntax.specs.declared.tree.Simple as I
use Rattle.syntax.specs.declared.tree.Stmt as S
use Rattle.syntax.specs.declared.tree.Stmt.TheOpen.{Stmt-F}
use Rattle.syntax.specs.declared.tree.Stmt.TheFolds.{fold-roll-Stmt}
use Rattle.syntax.specs.declared.tree.Stmt.TheVariants as SV
use Rattle.syntax.specs.Tree as Tree
use Rattle.syntax.specs.Views.{expr_of, exprs_of, simple_of, declarator_of, start_of, stmt_step, stmt_of, stmts_of}
use Rattle.syntax.specs.Types.{Scope, file_scope}
use Rattle.syntax.specs.Typing.{scope_of_start, scope_after, names_of, has_name, may_be_function, agrees, defined_names, with_parameters, parameter_names}
use Rattle.syntax.proofs.trees.Seen.{stmt_of_declare, stmt_of_block, stmt_of_print, stmt_of_return, stmt_of_if, stmt_of_if_else, stmt_of_while, stmt_of_do_while, stmt_of_for, stmt_of_transaction}
use Rattle.syntax.specs.Typing.{first_unmet, demand, demands_of, IsNumber, IsTyped, GivesNumber, AreTypedDeclarators, returns_right, IsTypedSimple, IsTypedStart, IsTypedPrint, IsTypedStmt, AreTypedStmts, AreDistinct, IsTypedBody, IsTypedFunction}
use Rattle.types.proofs.Steps.{first_of_two, first_of_three, or_or}

module _ {A : Type 0} (g : Option Scalar) (known : Scope) (ns : List (List ℕ)) (looping : Bool) (s : S.Stmt A) where
  pub typed_declare : (d : D.Declaration A) → s ≡ S.Declare d → first_unmet (IsTypedStmt g (stmt_of s) known ns looping) ≡ first_unmet (AreTypedDeclarators known ns d.ty (map declarator_of d.declarators))
  typed_declare d is = ap (λ x. first_unmet (IsTypedStmt g x known ns looping)) (ap stmt_of is ∙ stmt_of_declare d)

  pub typed_do : (d : I.Simple A) → s ≡ S.Do d → first_unmet (IsTypedStmt g (stmt_of s) known ns looping) ≡ first_unmet (IsTypedSimple known (simple_of d))
  typed_do d is = ap (λ x. first_unmet (IsTypedStmt g x known ns looping)) (ap stmt_of (is ∙ sym (SV.rolls-Do d)) ∙ fold-roll-Stmt A Tree.Stmt stmt_step (Stmt-F.Do d))

  pub typed_return : (e : Option (E.Expr A)) (at : Span) → s ≡ S.Return e at → first_unmet (IsTypedStmt g (stmt_of s) known ns looping) ≡ first_unmet (demands_of (option_map expr_of e) (IsTyped known) ++ demand 22 at (returns_right g (option_map expr_of e)) ++ demands_of (option_map expr_of e) (GivesNumber known))
  typed_return e at is = ap (λ x. first_unmet (IsTypedStmt g x known ns looping)) (ap stmt_of is ∙ stmt_of_return e at)

  pub typed_block : (ss : List (S.Stmt A)) → s ≡ S.Block ss → first_unmet (IsTypedStmt g (stmt_of s) known ns looping) ≡ first_unmet (AreTypedStmts g (stmts_of ss) known [] looping)
  typed_block ss is = ap (λ x. first_unmet (IsTypedStmt g x known ns looping)) (ap stmt_of is ∙ stmt_of_block ss)

  pub typed_transaction : (kind : TransactionKind) (ss : List (S.Stmt A)) (at : Span) → s ≡ S.Transaction kind ss at → first_unmet (IsTypedStmt g (stmt_of s) known ns looping) ≡ first_unmet (AreTypedStmts g (stmts_of ss) known [] looping)
  typed_transaction kind ss at is = ap (λ x. first_unmet (IsTypedStmt g x known ns looping)) (ap stmt_of is ∙ stmt_of_transaction kind ss at)

  pub typed_print : (at : Span) (format : List ℕ) (format_at : Span) (es : List (E.Expr A)) → s ≡ S.Print at format format_at es → first_unmet (IsTypedStmt g (stmt_of s) known ns looping) ≡ first_unmet (IsTypedPrint known format format_at (exprs_of es))
  typed_print at format format_at es is = ap (λ x. first_unmet (IsTypedStmt g x known ns looping)) (ap stmt_of is ∙ stmt_of_print at format format_at es)

  -- what comes behind the first branch
  abbrev pub else_first : Option (S.Stmt A) → Option (ℕ × Span)
  else_first None = None
  else_first (Some b) = first_unmet (IsTypedStmt g (stmt_of b) known ns looping)

  or_none : (a : Option (ℕ × Span)) → a ≡ option_or a None
  or_none None = refl
  or_none (Some x) = refl

  pub typed_if_one : (c : E.Expr A) (a : S.Stmt A) → s ≡ S.If c a None → first_unmet (IsTypedStmt g (stmt_of s) known ns looping) ≡ option_or (first_unmet (IsNumber known (expr_of c))) (first_unmet (IsTypedStmt g (stmt_of a) known ns looping))
  typed_if_one c a is = ap (λ x. first_unmet (IsTypedStmt g x known ns looping)) (ap stmt_of is ∙ stmt_of_if c a) ∙ first_of_two (IsNumber known (expr_of c)) (IsTypedStmt g (stmt_of a) known ns looping)

  pub typed_if_two : (c : E.Expr A) (a b : S.Stmt A) → s ≡ S.If c a (Some b) → first_unmet (IsTypedStmt g (stmt_of s) known ns looping) ≡ option_or (first_unmet (IsNumber known (expr_of c))) (option_or (first_unmet (IsTypedStmt g (stmt_of a) known ns looping)) (first_unmet (IsTypedStmt g (stmt_of b) known ns looping)))
  typed_if_two c a b is =
      ap (λ x. first_unmet (IsTypedStmt g x known ns looping)) (ap stmt_of is ∙ stmt_of_if_else c a b)
      ∙ first_of_two (IsNumber known (expr_of c) ++ IsTypedStmt g (stmt_of a) known ns looping) (IsTypedStmt g (stmt_of b) known ns looping)
      ∙ ap (λ o. option_or o (first_unmet (IsTypedStmt g (stmt_of b) known ns looping))) (first_of_two (IsNumber known (expr_of c)) (IsTypedStmt g (stmt_of a) known ns looping))
      ∙ or_or (first_unmet (IsNumber known (expr_of c))) (first_unmet (IsTypedStmt g (stmt_of a) known ns looping)) (first_unmet (IsTypedStmt g (stmt_of b) known ns looping))

  pub typed_if : (c : E.Expr A) (a : S.Stmt A) (b : Option (S.Stmt A)) → s ≡ S.If c a b → first_unmet (IsTypedStmt g (stmt_of s) known ns looping) ≡ option_or (first_unmet (IsNumber known (expr_of c))) (option_or (first_unmet (IsTypedStmt g (stmt_of a) known ns looping)) (else_first b))
  typed_if c a None is = typed_if_one c a is ∙ ap (option_or (first_unmet (IsNumber known (expr_of c)))) (or_none (first_unmet (IsTypedStmt g (stmt_of a) known ns looping)))
  typed_if c a (Some b) is = typed_if_two c a b is

  pub typed_while : (c : E.Expr A) (a : S.Stmt A) → s ≡ S.While c a → first_unmet (IsTypedStmt g (stmt_of s) known ns looping) ≡ option_or (first_unmet (IsNumber known (expr_of c))) (first_unmet (IsTypedStmt g (stmt_of a) known ns true))
  typed_while c a is = ap (λ x. first_unmet (IsTypedStmt g x known ns looping)) (ap stmt_of is ∙ stmt_of_while c a) ∙ first_of_two (IsNumber known (expr_of c)) (IsTypedStmt g (stmt_of a) known ns true)

  pub typed_do_while : (a : S.Stmt A) (c : E.Expr A) → s ≡ S.DoWhile a c → first_unmet (IsTypedStmt g (stmt_of s) known ns looping) ≡ option_or (first_unmet (IsTypedStmt g (stmt_of a) known ns true)) (first_unmet (IsNumber known (expr_of c)))
  typed_do_while a c is = ap (λ x. first_unmet (IsTypedStmt g x known ns looping)) (ap stmt_of is ∙ stmt_of_do_while a c) ∙ first_of_two (IsTypedStmt g (stmt_of a) known ns true) (IsNumber known (expr_of c))

  pub typed_for : (head h : H.ForHead A) (a : S.Stmt A) → s ≡ S.For head a → h ≡ head → first_unmet (IsTypedStmt g (stmt_of s) known ns looping) ≡ option_or (first_unmet (IsTypedStart known (start_of h.start) ++ demands_of (option_map expr_of h.condition) (IsNumber (scope_of_start (start_of h.start) known)) ++ demands_of (option_map simple_of h.step) (IsTypedSimple (scope_of_start (start_of h.start) known)))) (first_unmet (IsTypedStmt g (stmt_of a) (scope_of_start (start_of h.start) known) [] true))
  typed_for head h a is same =
      ap (λ x. first_unmet (IsTypedStmt g x known ns looping)) (ap stmt_of is ∙ stmt_of_for head a)
      ∙ first_of_two (IsTypedStart known (start_of head.start) ++ demands_of (option_map expr_of head.condition) (IsNumber (scope_of_start (start_of head.start) known)) ++ demands_of (option_map simple_of head.step) (IsTypedSimple (scope_of_start (start_of head.start) known))) (IsTypedStmt g (stmt_of a) (scope_of_start (start_of head.start) known) [] true)
      ∙ ap (λ x. option_or (first_unmet (IsTypedStart known (start_of x.start) ++ demands_of (option_map expr_of x.condition) (IsNumber (scope_of_start (start_of x.start) known)) ++ demands_of (option_map simple_of x.step) (IsTypedSimple (scope_of_start (start_of x.start) known)))) (first_unmet (IsTypedStmt g (stmt_of a) (scope_of_start (start_of x.start) known) [] true))) (sym same)

-- one statement more
module _ {A : Type 0} (g : Option Scalar) (looping : Bool) where
  pub stmts_more : (known : Scope) (ns : List (List ℕ)) (ss : List (S.Stmt A)) (i : ℕ) (s : S.Stmt A) → s ≡ get_or ss i s → i < length ss → first_unmet (AreTypedStmts g (stmts_of (drop i ss)) known ns looping) ≡ option_or (first_unmet (IsTypedStmt g (stmt_of s) known ns looping)) (first_unmet (AreTypedStmts g (stmts_of (drop (i + 1) ss)) (scope_after (stmt_of s) known) (names_of (stmt_of s) ++ ns) looping))
  stmts_more known ns ss i s is less =
      at_drop_more (λ xs. first_unmet (AreTypedStmts g (stmts_of xs) known ns looping)) ss i s less
      ∙ ap (λ x. first_unmet (AreTypedStmts g (stmts_of (x ∷ drop (i + 1) ss)) known ns looping)) (sym is)
      ∙ first_of_two (IsTypedStmt g (stmt_of s) known ns looping) (AreTypedStmts g (stmts_of (drop (i + 1) ss)) (scope_after (stmt_of s) known) (names_of (stmt_of s) ++ ns) looping)

-- a body by its function
body_demands : (earlier : List Item) (f : Function) (body : Option Stmts) → IsTypedBody earlier f body ≡ demands_of body (λ ss. AreTypedStmts f.result ss (with_parameters f.parameters (file_scope (earlier ++ Defines f ∷ []))) (parameter_names f.parameters) false)
body_demands earlier f None = refl
body_demands earlier f (Some ss) = refl

-- a function by its parts
pub typed_function : (earlier : List Item) (f : Function) → first_unmet (IsTypedFunction earlier f) ≡ option_or (first_unmet (demand 21 f.name.span (may_be_function (file_scope earlier f.name.text) && (is_none f.body || not (has_name (defined_names earlier) f.name.text))) ++ demand 22 f.name.span (agrees f (file_scope earlier f.name.text)))) (first_unmet (AreDistinct [] f.parameters ++ demands_of f.body (λ ss. AreTypedStmts f.result ss (with_parameters f.parameters (file_scope (earlier ++ Defines f ∷ []))) (parameter_names f.parameters) false)))
typed_function earlier f =
    let own = demand 21 f.name.span (may_be_function (file_scope earlier f.name.text) && (is_none f.body || not (has_name (defined_names earlier) f.name.text))) ++ demand 22 f.name.span (agrees f (file_scope earlier f.name.text)) in
    first_of_three own (AreDistinct [] f.parameters) (IsTypedBody earlier f f.body)
    ∙ ap (option_or (first_unmet own)) (sym (first_of_two (AreDistinct [] f.parameters) (IsTypedBody earlier f f.body)) ∙ ap (λ ds. first_unmet (AreDistinct [] f.parameters ++ ds)) (body_demands earlier f f.body))
