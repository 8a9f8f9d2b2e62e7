-- What typed means of a tree, part by part.
use Rattle.std.proofs.Common.{ℕ, List, [], ◌∷◌, ◌++◌, length, Option, Some, None, Bool, true, false, not, IsTrue}
use Rattle.std.specs.Prelude.{◌==◌, ◌&&◌}
use Rattle.std.specs.Option.{IfSome}
use Rattle.lex.specs.declared.token.Span.{Span}
use Rattle.lex.specs.declared.token.Scalar.{Scalar}
use Rattle.syntax.specs.Tree as Tree
use Rattle.syntax.specs.Tree.{Name, Expr, Exprs, Variable, Constant, Element, Call, Parenthesized, Cast, Unary, Binary, Logical, Conditional, InTransaction, Simple, Evaluate, Assign, Adjust, Declarator, Start, Nothing, Declares, Does, Stmt, Stmts, Empty, Declare, Do, Block, Print, If, IfElse, While, DoWhile, For, Break, Continue, Return, Transaction, Cancel, CancelOuter}
use Rattle.syntax.specs.Types.{Scope, with_number}
use Rattle.syntax.specs.Formats.{pieces, is_format, specifiers}
use Rattle.syntax.specs.Typing.{is_unknown, may_be_number, may_be_array, may_be_function, takes_so_many, count, span_of, is_void, has_name, scope_after, names_of, scope_of_start, returns_right, may_be_assigned, Demand, demand, demands_of, IsKnown, GivesNumber, IsTyped, AreNumbers, IsNumber, IsTypedTarget, IsAssignable, IsTypedSimple, HaveTypes, IsTypedPrint, AreTypedDeclarators, IsTypedStart, IsTypedStmt, AreTypedStmts}
use Rattle.syntax.proofs.typing.Demands.{AreMet, met_before, met_behind, is_met}

-- expressions
module _ (known : Scope) where
  abbrev pub Knows : Name → Type 0
  Knows x = IsTrue (not (is_unknown (known x.text)))

  abbrev pub Gives : Expr → Type 0
  Gives e = IsTrue (not (is_void known e))

  abbrev mutual
    pub TypedExpr : Expr → Type 0
    TypedExpr (Variable x) = Knows x × IsTrue (may_be_number (known x.text))
    TypedExpr (Constant n t at) = Unit {0}
    TypedExpr (Element x i at) = Knows x × TypedExpr i × IsTrue (may_be_array (known x.text))
    TypedExpr (Call f es at) = Knows f × TypedExprs es × IsTrue (may_be_function (known f.text)) × IsTrue (takes_so_many (known f.text) (count es))
    TypedExpr (Parenthesized e at) = TypedExpr e
    TypedExpr (Cast t e at) = TypedExpr e
    TypedExpr (Unary op e at) = TypedExpr e × Gives e
    TypedExpr (Binary op a b at) = TypedExpr a × Gives a × TypedExpr b × Gives b
    TypedExpr (Logical op a b at) = TypedExpr a × TypedExpr b
    TypedExpr (Conditional c a b at) = TypedExpr c × TypedExpr a × Gives a × TypedExpr b × Gives b
    TypedExpr (InTransaction mode keyword e at) = TypedExpr e × Gives e

    pub TypedExprs : Exprs → Type 0
    TypedExprs Exprs.[] = Unit {0}
    TypedExprs (Exprs.◌∷◌ e es) = TypedExpr e × TypedExprs es

  known_part : (x : Name) → AreMet (IsKnown known x) → Knows x
  known_part x h = is_met 20 x.span (not (is_unknown (known x.text))) h

  number_part : (e : Expr) → AreMet (IsNumber known e) → AreMet (IsTyped known e)
  number_part e h = met_before (IsTyped known e) (GivesNumber known e) h

  gives_part : (e : Expr) → AreMet (IsNumber known e) → Gives e
  gives_part e h = is_met 22 (span_of e) (not (is_void known e)) (met_behind (IsTyped known e) (GivesNumber known e) h)

  mutual
    pub expr_parts : (e : Expr) → AreMet (IsTyped known e) → TypedExpr e
    expr_parts (Variable x) h =
        let number = demand 22 x.span (may_be_number (known x.text)) in
        (known_part x (met_before (IsKnown known x) number h), is_met 22 x.span (may_be_number (known x.text)) (met_behind (IsKnown known x) number h))
    expr_parts (Constant n t at) h = tt
    expr_parts (Element x i at) h =
        let array = demand 22 at (may_be_array (known x.text)) in
        let first = met_before (IsKnown known x ++ IsNumber known i) array h in (
          known_part x (met_before (IsKnown known x) (IsNumber known i) first),
          expr_parts i (number_part i (met_behind (IsKnown known x) (IsNumber known i) first)),
          is_met 22 at (may_be_array (known x.text)) (met_behind (IsKnown known x ++ IsNumber known i) array h),
        )
    expr_parts (Call f es at) h =
        let function = demand 22 at (may_be_function (known f.text)) in
        let so_many = demand 23 f.span (takes_so_many (known f.text) (count es)) in
        let first = met_before (IsKnown known f ++ AreNumbers known es) (function ++ so_many) h in
        let last = met_behind (IsKnown known f ++ AreNumbers known es) (function ++ so_many) h in (
          known_part f (met_before (IsKnown known f) (AreNumbers known es) first),
          exprs_parts es (met_behind (IsKnown known f) (AreNumbers known es) first),
          is_met 22 at (may_be_function (known f.text)) (met_before function so_many last),
          is_met 23 f.span (takes_so_many (known f.text) (count es)) (met_behind function so_many last),
        )
    expr_parts (Parenthesized e at) h = expr_parts e h
    expr_parts (Cast t e at) h = expr_parts e (number_part e h)
    expr_parts (Unary op e at) h = (expr_parts e (number_part e h), gives_part e h)
    expr_parts (Binary op a b at) h =
        let g = met_before (IsNumber known a) (IsNumber known b) h in
        let k = met_behind (IsNumber known a) (IsNumber known b) h in
        (expr_parts a (number_part a g), gives_part a g, expr_parts b (number_part b k), gives_part b k)
    expr_parts (Logical op a b at) h =
        let g = met_before (IsNumber known a) (IsNumber known b) h in
        let k = met_behind (IsNumber known a) (IsNumber known b) h in
        (expr_parts a (number_part a g), expr_parts b (number_part b k))
    expr_parts (Conditional c a b at) h =
        let first = met_before (IsNumber known c ++ IsNumber known a) (IsNumber known b) h in
        let f = met_before (IsNumber known c) (IsNumber known a) first in
        let g = met_behind (IsNumber known c) (IsNumber known a) first in
        let k = met_behind (IsNumber known c ++ IsNumber known a) (IsNumber known b) h in
        (expr_parts c (number_part c f), expr_parts a (number_part a g), gives_part a g, expr_parts b (number_part b k), gives_part b k)
    expr_parts (InTransaction mode keyword e at) h = (expr_parts e (number_part e h), gives_part e h)

    exprs_parts : (es : Exprs) → AreMet (AreNumbers known es) → TypedExprs es
    exprs_parts Tree.[] h = tt
    exprs_parts (Tree.◌∷◌ e es) h =
        (expr_parts e (number_part e (met_before (IsNumber known e) (AreNumbers known es) h)), exprs_parts es (met_behind (IsNumber known e) (AreNumbers known es) h))

  pub of_number : (e : Expr) → AreMet (IsNumber known e) → TypedExpr e
  of_number e h = expr_parts e (number_part e h)

  -- statements without parts that are statements
  abbrev pub TypedTarget : Expr → Type 0
  TypedTarget (Variable x) = Knows x
  TypedTarget e = TypedExpr e

  abbrev pub TypedSimple : Simple → Type 0
  TypedSimple (Evaluate e) = TypedExpr e
  TypedSimple (Assign to op e) = TypedTarget to × TypedExpr e × IsTrue (may_be_assigned known to)
  TypedSimple (Adjust to by) = TypedTarget to × IsTrue (may_be_assigned known to)

  abbrev pub TypedPrint : List ℕ → Exprs → Type 0
  TypedPrint format es = TypedExprs es × IsTrue (length (specifiers (pieces format)) == count es)

  target_parts : (to : Expr) → AreMet (IsTypedTarget known to) → TypedTarget to
  target_parts (Variable x) h = known_part x h
  target_parts (Constant n t at) h = tt
  target_parts (Element x i at) h = expr_parts (Element x i at) h
  target_parts (Call f es at) h = expr_parts (Call f es at) h
  target_parts (Parenthesized e at) h = expr_parts e h
  target_parts (Cast t e at) h = expr_parts (Cast t e at) h
  target_parts (Unary op e at) h = expr_parts (Unary op e at) h
  target_parts (Binary op a b at) h = expr_parts (Binary op a b at) h
  target_parts (Logical op a b at) h = expr_parts (Logical op a b at) h
  target_parts (Conditional c a b at) h = expr_parts (Conditional c a b at) h
  target_parts (InTransaction mode keyword e at) h = expr_parts (InTransaction mode keyword e at) h

  pub simple_parts : (s : Simple) → AreMet (IsTypedSimple known s) → TypedSimple s
  simple_parts (Evaluate e) h = expr_parts e h
  simple_parts (Assign to op e) h =
      let first = met_before (IsTypedTarget known to ++ IsNumber known e) (IsAssignable known to) h in (
        target_parts to (met_before (IsTypedTarget known to) (IsNumber known e) first),
        of_number e (met_behind (IsTypedTarget known to) (IsNumber known e) first),
        is_met 24 (span_of to) (may_be_assigned known to) (met_behind (IsTypedTarget known to ++ IsNumber known e) (IsAssignable known to) h),
      )
  simple_parts (Adjust to by) h =
      (target_parts to (met_before (IsTypedTarget known to) (IsAssignable known to) h), is_met 24 (span_of to) (may_be_assigned known to) (met_behind (IsTypedTarget known to) (IsAssignable known to) h))

  second_true : (a b : Bool) → IsTrue (a && b) → IsTrue b
  second_true true b h = h
  second_true false b h = absurd (cc)

  pub print_parts : (format : List ℕ) (at : Span) (es : Exprs) → AreMet (IsTypedPrint known format at es) → TypedPrint format es
  print_parts format at es h =
      let printed = specifiers (pieces format) in
      let right = is_format format && (length printed == count es) in
      let first = met_before (AreNumbers known es ++ demand 27 at right) (HaveTypes known printed es) h in (
        exprs_parts es (met_before (AreNumbers known es) (demand 27 at right) first),
        second_true (is_format format) (length printed == count es) (is_met 27 at right (met_behind (AreNumbers known es) (demand 27 at right) first)),
      )

-- what there may be
pub parts_of : {A : Type 0} (P : A → Type 0) (f : A → List Demand) (o : Option A) → ((a : A) → AreMet (f a) → P a) → AreMet (demands_of o f) → IfSome o P
parts_of P f None g h = tt
parts_of P f (Some a) g h = g a h

abbrev pub TypedDeclarators : Scope → Scalar → List Declarator → Type 0
TypedDeclarators known t [] = Unit {0}
TypedDeclarators known t (d ∷ ds) =
    let known' = with_number d.name.text t known in
    IfSome d.first (TypedExpr known') × TypedDeclarators known' t ds

pub declarators_parts : (known : Scope) (declared : List (List ℕ)) (t : Scalar) (ds : List Declarator) → AreMet (AreTypedDeclarators known declared t ds) → TypedDeclarators known t ds
declarators_parts known declared t [] h = tt
declarators_parts known declared t (d ∷ ds) h =
    let known' = with_number d.name.text t known in
    let new = demand 21 d.name.span (not (has_name declared d.name.text)) in
    let own = demands_of d.first (IsNumber known') in
    let others = AreTypedDeclarators known' (d.name.text ∷ declared) t ds in (
      parts_of (TypedExpr known') (IsNumber known') d.first (of_number known') (met_behind new own (met_before (new ++ own) others h)),
      declarators_parts known' (d.name.text ∷ declared) t ds (met_behind (new ++ own) others h),
    )

abbrev pub TypedStart : Scope → Start → Type 0
TypedStart known Nothing = Unit {0}
TypedStart known (Declares d) = TypedDeclarators known d.ty d.declarators
TypedStart known (Does s) = TypedSimple known s

start_parts : (known : Scope) (s : Start) → AreMet (IsTypedStart known s) → TypedStart known s
start_parts known Nothing h = tt
start_parts known (Declares d) h = declarators_parts known [] d.ty d.declarators h
start_parts known (Does s) h = simple_parts known s h

abbrev mutual
  pub TypedStmt : Stmt → Scope → (looping : Bool) → Type 0
  TypedStmt Empty known looping = Unit {0}
  TypedStmt (Declare d) known looping = TypedDeclarators known d.ty d.declarators
  TypedStmt (Do s) known looping = TypedSimple known s
  TypedStmt (Block ss) known looping = TypedStmts ss known looping
  TypedStmt (Print at format format_at es) known looping = TypedPrint known format es
  TypedStmt (If c a) known looping = TypedExpr known c × TypedStmt a known looping
  TypedStmt (IfElse c a b) known looping = TypedExpr known c × TypedStmt a known looping × TypedStmt b known looping
  TypedStmt (While c a) known looping = TypedExpr known c × TypedStmt a known true
  TypedStmt (DoWhile a c) known looping = TypedStmt a known true × TypedExpr known c
  TypedStmt (For start c step a) known looping =
      let known' = scope_of_start start known in
      TypedStart known start × IfSome c (TypedExpr known') × IfSome step (TypedSimple known') × TypedStmt a known' true
  TypedStmt (Break at) known looping = IsTrue looping
  TypedStmt (Continue at) known looping = IsTrue looping
  TypedStmt (Return e at) known looping = IfSome e (TypedExpr known)
  TypedStmt (Transaction kind ss at) known looping = TypedStmts ss known looping
  TypedStmt (Cancel at) known looping = Unit {0}
  TypedStmt (CancelOuter at) known looping = Unit {0}

  pub TypedStmts : Stmts → Scope → (looping : Bool) → Type 0
  TypedStmts Stmts.[] known looping = Unit {0}
  TypedStmts (Stmts.◌∷◌ s ss) known looping = TypedStmt s known looping × TypedStmts ss (scope_after s known) looping

module _ (gives : Option Scalar) where
  mutual
    pub stmt_parts : (s : Stmt) (known : Scope) (declared : List (List ℕ)) (looping : Bool) → AreMet (IsTypedStmt gives s known declared looping) → TypedStmt s known looping
    stmt_parts Empty known declared looping h = tt
    stmt_parts (Declare d) known declared looping h = declarators_parts known declared d.ty d.declarators h
    stmt_parts (Do s) known declared looping h = simple_parts known s h
    stmt_parts (Block ss) known declared looping h = stmts_parts ss known [] looping h
    stmt_parts (Print at format format_at es) known declared looping h = print_parts known format format_at es h
    stmt_parts (If c a) known declared looping h = (
      of_number known c (met_before (IsNumber known c) (IsTypedStmt gives a known declared looping) h),
      stmt_parts a known declared looping (met_behind (IsNumber known c) (IsTypedStmt gives a known declared looping) h),
    )
    stmt_parts (IfElse c a b) known declared looping h =
        let then_ = IsTypedStmt gives a known declared looping in
        let else_ = IsTypedStmt gives b known declared looping in
        let first = met_before (IsNumber known c ++ then_) else_ h in (
          of_number known c (met_before (IsNumber known c) then_ first),
          stmt_parts a known declared looping (met_behind (IsNumber known c) then_ first),
          stmt_parts b known declared looping (met_behind (IsNumber known c ++ then_) else_ h),
        )
    stmt_parts (While c a) known declared looping h = (
      of_number known c (met_before (IsNumber known c) (IsTypedStmt gives a known declared true) h),
      stmt_parts a known declared true (met_behind (IsNumber known c) (IsTypedStmt gives a known declared true) h),
    )
    stmt_parts (DoWhile a c) known declared looping h = (
      stmt_parts a known declared true (met_before (IsTypedStmt gives a known declared true) (IsNumber known c) h),
      of_number known c (met_behind (IsTypedStmt gives a known declared true) (IsNumber known c) h),
    )
    stmt_parts (For start c step a) known declared looping h =
        let known' = scope_of_start start known in
        let begin = IsTypedStart known start in
        let test = demands_of c (IsNumber known') in
        let further = demands_of step (IsTypedSimple known') in
        let body = IsTypedStmt gives a known' [] true in
        let three = met_before (begin ++ test ++ further) body h in
        let two = met_before (begin ++ test) further three in (
          start_parts known start (met_before begin test two),
          parts_of (TypedExpr known') (IsNumber known') c (of_number known') (met_behind begin test two),
          parts_of (TypedSimple known') (IsTypedSimple known') step (simple_parts known') (met_behind (begin ++ test) further three),
          stmt_parts a known' [] true (met_behind (begin ++ test ++ further) body h),
        )
    stmt_parts (Break at) known declared looping h = is_met 26 at looping h
    stmt_parts (Continue at) known declared looping h = is_met 26 at looping h
    stmt_parts (Return e at) known declared looping h =
        let own = demands_of e (IsTyped known) in
        let right = demand 22 at (returns_right gives e) in
        parts_of (TypedExpr known) (IsTyped known) e (expr_parts known) (met_before own right (met_before (own ++ right) (demands_of e (GivesNumber known)) h))
    stmt_parts (Transaction kind ss at) known declared looping h = stmts_parts ss known [] looping h
    stmt_parts (Cancel at) known declared looping h = tt
    stmt_parts (CancelOuter at) known declared looping h = tt

    pub stmts_parts : (ss : Stmts) (known : Scope) (declared : List (List ℕ)) (looping : Bool) → AreMet (AreTypedStmts gives ss known declared looping) → TypedStmts ss known looping
    stmts_parts Tree.[] known declared looping h = tt
    stmts_parts (Tree.◌∷◌ s ss) known declared looping h =
        let others = AreTypedStmts gives ss (scope_after s known) (names_of s ++ declared) looping in (
          stmt_parts s known declared looping (met_before (IsTypedStmt gives s known declared looping) others h),
          stmts_parts ss (scope_after s known) (names_of s ++ declared) looping (met_behind (IsTypedStmt gives s known declared looping) others h),
        )
