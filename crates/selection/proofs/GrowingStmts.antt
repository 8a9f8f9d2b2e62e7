-- What follows in a body needs no fewer registers.
use Rattle.std.proofs.Common.{◌≡◌, ℕ, suc, ◌+◌, ◌≤◌, List, [], ◌∷◌, ◌++◌, length, Option, Some, None, Bool, true, false, if◌then◌else◌, ◌==◌, refl, arith}
use Rattle.lex.specs.declared.token.Scalar.{Scalar}
use Rattle.syntax.specs.declared.tree.BinaryOp.{BinaryOp}
use Rattle.syntax.specs.Tree.{Expr, Variable, Constant, Element, Simple, Evaluate, Assign, Adjust, Declarator, Start, Nothing, Declares, Does, Stmt, Stmts, Empty, Declare, Do, Block, Print, If, IfElse, While, DoWhile, For, Break, Continue, Return, Transaction, Cancel, CancelOuter, Program}
use Rattle.syntax.specs.Numbers.{operand_type, result_type}
use Rattle.syntax.specs.Names.{newest, global_of, GlobalCells}
use Rattle.syntax.specs.Formats.{Piece, Literal, Specifier, pieces}
use Rattle.syntax.specs.Meaning.{op_of}
use Rattle.bytecode.specs.declared.instr.Instr.TheVariants as own
use Rattle.lower_spec.specs.Expressions.{LocalScope}
use Rattle.lower_spec.specs.Statements.{with_local, locals_of_start, locals_after}
use Rattle.selection.specs.declared.locations.AssignmentTarget.{AssignmentTarget}
use Rattle.selection.specs.declared.locations.AssignmentTarget.TheVariants as target
use Rattle.selection.specs.declared.locations.Exits.{Exits}
use Rattle.selection.specs.Lists.{Lists, with_register}
use Rattle.selection.specs.Expressions.{Emitted, above, converting, converted_by, both, constant, preloaded, emitted_type, emit, emit_all, condition}
use Rattle.selection.specs.Simples.{nothing_written, one_written, variable_target, element_target, target_code, above_target, target_value, home_or, target_store, type_at, taking, expr_fitting, value_or_one, type_or_int, compound_value, assignment_code, compound_code, simple_written, first_written, declarator_written, declared_written, start_written}
use Rattle.selection.specs.Statements.{in_transaction, looping, pieces_written, for_test, for_step, stmt_code, stmts_code}
use Rattle.selection.proofs.Growing.{used_more, ready_more, converted_more, emitted_more, due_more, operand_more, all_more, condition_more}

pub target_more : (x : Option (ℕ × Scalar)) (g : Option GlobalCells) (from : ℕ) (l : Lists) → l.registers ≤ (variable_target x g from l).lists.registers
target_more (Some x) g from l = used_more x.0 l
target_more None (Some g) from l = omega arith
target_more None None from l = omega arith

element_more : (check : Bool) (g : Option GlobalCells) (i : Emitted) (from : ℕ) (l : Lists) → l.registers ≤ i.lists.registers → l.registers ≤ (element_target check g i from l).lists.registers
element_more check (Some g) i from l h = h
element_more check None i from l h = omega arith

pub fetched_more : (t : AssignmentTarget) (from free : ℕ) (l : Lists) → l.registers ≤ (target_value t from free l).lists.registers
fetched_more (target.Local i t) from free l = used_more i l
fetched_more (target.Cell c t) from free l = used_more free l
fetched_more (target.Element i c n t) from free l = used_more free l
fetched_more target.Nowhere from free l = used_more free l

pub stored_same : (t : AssignmentTarget) (a from : ℕ) (l : Lists) → (target_store t a from l).lists.registers ≡ l.registers
stored_same (target.Local i t) a from l = by (a == i)
  where
    by : (b : Bool) → (if b then nothing_written from l else one_written (own.Move i a) from l).lists.registers ≡ l.registers
    by true = refl
    by false = refl
stored_same (target.Cell c t) a from l = refl
stored_same (target.Element i c n t) a from l = refl
stored_same target.Nowhere a from l = refl

pub expr_fitting_more : (t : AssignmentTarget) (s : Scalar) (e' : Expr) (e : Emitted) (from into : ℕ) (l : Lists) → l.registers ≤ e.lists.registers → l.registers ≤ (expr_fitting t s e' e from into l).lists.registers
expr_fitting_more t s (Constant n x at) e from into l h = used_more into l
expr_fitting_more t s e' e from into l h = let a = converted_more (taking t s) (type_at t) e into in omega (arith, h, a)

pub pieces_same : (ps : List Piece) (rs : List ℕ) (from : ℕ) (l : Lists) → (pieces_written ps rs from l).lists.registers ≡ l.registers
pieces_same [] rs from l = refl
pieces_same (Literal text ∷ ps) rs from l = pieces_same ps rs (from + 1) (record l { texts = l.texts ++ text ∷ [] })
pieces_same (Specifier t ∷ ps) [] from l = refl
pieces_same (Specifier t ∷ ps) (r ∷ rs) from l = pieces_same ps rs (from + 1) l

module _ (p : Program) (scope : LocalScope) where
  pub aimed_more : (check : Bool) (e : Expr) (from free : ℕ) (l : Lists) → l.registers ≤ (target_code p scope check e from free l).lists.registers
  aimed_more check (Variable x) from free l = target_more (newest scope x.text) (global_of p x.text) from l
  aimed_more check (Element x i at) from free l = element_more check (global_of p x.text) (emit p scope i from free free l) from l (emitted_more p scope i from free free l)
  aimed_more check e from free l = omega arith

  pub one_more : (u : Scalar) (by : Option Expr) (from free : ℕ) (l : Lists) → l.registers ≤ (value_or_one p scope u by from free l).lists.registers
  one_more u None from free l = ready_more (preloaded l.layout 1 u from) l (constant 1 u from free l) (used_more free l)
  one_more u (Some e) from free l = operand_more p scope u e from free l

  -- a value, and where it goes
  pub assigned_more : (lhs e : Expr) (from free : ℕ) (l : Lists) → l.registers ≤ (assignment_code p scope lhs e from free l).lists.registers
  assigned_more lhs e from free l =
      let t = target_code p scope true lhs from free l in
      let later = above_target t.target free in
      let home = home_or t.target later in
      let first = emit p scope e t.to home later t.lists in
      let made = expr_fitting t.target (emitted_type p scope e) e first t.to home t.lists in
      let a = aimed_more true lhs from free l in
      let b = expr_fitting_more t.target (emitted_type p scope e) e first t.to home t.lists (emitted_more p scope e t.to home later t.lists) in
      let c = stored_same t.target made.location.register made.location.to made.lists in
      omega (arith, a, b, c)

  pub changed_more : (op : BinaryOp) (by : Option Expr) (t : AssignmentTarget) (from free : ℕ) (l : Lists) → l.registers ≤ (compound_value p scope op by t from free l).lists.registers
  changed_more op by t from free l =
      let s = type_at t in
      let u = operand_type op s (type_or_int p scope by) in
      let first = target_value t from free l in
      let old = converted_by (converting s u) u first free in
      let v = operand_type op (type_or_int p scope by) s in
      let other = value_or_one p scope v by old.location.to (above free old.location.register) old.lists in
      let home = home_or t free in
      let whole = both op u old other home in
      let a = fetched_more t from free l in
      let b = converted_more (converting s u) u first free in
      let c = one_more v by old.location.to (above free old.location.register) old.lists in
      let d = used_more home other.lists in
      let e = converted_more (taking t (result_type op u)) s whole home in
      omega (arith, a, b, c, d, e)

  pub adjusted_more : (op : BinaryOp) (lhs : Expr) (by : Option Expr) (from free : ℕ) (l : Lists) → l.registers ≤ (compound_code p scope op lhs by from free l).lists.registers
  adjusted_more op lhs by from free l =
      let t = target_code p scope false lhs from free l in
      let later = above_target t.target free in
      let made = compound_value p scope op by t.target t.to later t.lists in
      let a = aimed_more false lhs from free l in
      let b = changed_more op by t.target t.to later t.lists in
      let c = stored_same t.target made.location.register made.location.to made.lists in
      omega (arith, a, b, c)

  pub simple_more : (s : Simple) (from free : ℕ) (l : Lists) → l.registers ≤ (simple_written p scope s from free l).lists.registers
  simple_more (Evaluate e) from free l = emitted_more p scope e from free free l
  simple_more (Assign lhs None e) from free l = assigned_more lhs e from free l
  simple_more (Assign lhs (Some op) e) from free l = adjusted_more op lhs (Some e) from free l
  simple_more (Adjust lhs by) from free l = adjusted_more (op_of by) lhs None from free l

module _ (p : Program) where
  pub first_more : (scope : LocalScope) (i : ℕ) (t : Scalar) (first : Option Expr) (from : ℕ) (l : Lists) → l.registers ≤ (first_written p scope i t first from l).lists.registers
  first_more scope i t None from l = omega arith
  first_more scope i t (Some e) from l =
      let first = emit p scope e from i (suc i) l in
      let made = expr_fitting (target.Local i t) (emitted_type p scope e) e first from i l in
      let a = expr_fitting_more (target.Local i t) (emitted_type p scope e) e first from i l (emitted_more p scope e from i (suc i) l) in
      let b = stored_same (target.Local i t) made.location.register made.location.to made.lists in
      omega (arith, a, b)

  pub declarator_more : (t : Scalar) (d : Declarator) (scope : LocalScope) (from : ℕ) (l : Lists) → l.registers ≤ (declarator_written p t d scope from l).lists.registers
  declarator_more t d scope from l =
      let a = used_more (length scope) l in
      let b = first_more (with_local scope d.name.text t) (length scope) t d.first (from + 1) (with_register (length scope) l) in
      omega (arith, a, b)

  pub declared_more : (t : Scalar) (ds : List Declarator) (scope : LocalScope) (from : ℕ) (l : Lists) → l.registers ≤ (declared_written p t ds scope from l).lists.registers
  declared_more t [] scope from l = omega arith
  declared_more t (d ∷ ds) scope from l =
      let one = declarator_written p t d scope from l in
      let a = declarator_more t d scope from l in
      let b = declared_more t ds (with_local scope d.name.text t) one.to one.lists in
      omega (arith, a, b)

  pub start_more : (start : Start) (scope : LocalScope) (from : ℕ) (l : Lists) → l.registers ≤ (start_written p start scope from l).lists.registers
  start_more Nothing scope from l = omega arith
  start_more (Declares d) scope from l = declared_more d.ty d.declarators scope from l
  start_more (Does s) scope from l = simple_more p scope s from (length scope) l

  pub test_more : (scope : LocalScope) (c : Option Expr) (at from : ℕ) (l : Lists) → l.registers ≤ (for_test p scope c at from l).lists.registers
  test_more scope None at from l = omega arith
  test_more scope (Some c) at from l = condition_more p scope c from (length scope) l

  pub step_more : (scope : LocalScope) (s : Option Simple) (from : ℕ) (l : Lists) → l.registers ≤ (for_step p scope s from l).lists.registers
  step_more scope None from l = omega arith
  step_more scope (Some s) from l = simple_more p scope s from (length scope) l

  mutual
    pub written_more : (s : Stmt) (x : Exits) (scope : LocalScope) (from : ℕ) (l : Lists) → l.registers ≤ (stmt_code p s x scope from l).lists.registers
    written_more Empty x scope from l = omega arith
    written_more (Declare d) x scope from l = declared_more d.ty d.declarators scope from l
    written_more (Do s) x scope from l = simple_more p scope s from (length scope) l
    written_more (Block ss) x scope from l = stmts_more ss x scope from l
    written_more (Print at format format_at es) x scope from l =
        let args = emit_all p scope [] es (from + 1) (length scope) l in
        let a = all_more p scope [] es (from + 1) (length scope) l in
        let b = pieces_same (pieces format) args.registers args.to args.lists in
        omega (arith, a, b)
    written_more (If c s) x scope from l =
        let test = condition p scope c from (length scope) l in
        let a = condition_more p scope c from (length scope) l in
        let b = written_more s x scope (test.to + 1) test.lists in
        omega (arith, a, b)
    written_more (IfElse c s r) x scope from l =
        let test = condition p scope c from (length scope) l in
        let first = stmt_code p s x scope (test.to + 1) test.lists in
        let a = condition_more p scope c from (length scope) l in
        let b = written_more s x scope (test.to + 1) test.lists in
        let d = written_more r x scope (first.to + 1) first.lists in
        omega (arith, a, b, d)
    written_more (While c s) x scope from l =
        let body = stmt_code p s (looping x (from + 1) from) scope (from + 2) l in
        let a = written_more s (looping x (from + 1) from) scope (from + 2) l in
        let b = condition_more p scope c body.to (length scope) body.lists in
        omega (arith, a, b)
    written_more (DoWhile s c) x scope from l =
        let body = stmt_code p s (looping x (from + 1) (from + 2)) scope (from + 3) l in
        let a = written_more s (looping x (from + 1) (from + 2)) scope (from + 3) l in
        let b = condition_more p scope c body.to (length scope) body.lists in
        omega (arith, a, b)
    written_more (For start c step s) x scope from l =
        let inner = locals_of_start start scope in
        let first = start_written p start scope from l in
        let body = stmt_code p s (looping x (first.to + 1) (first.to + 2)) inner (first.to + 3) first.lists in
        let next = for_step p inner step body.to body.lists in
        let a = start_more start scope from l in
        let b = written_more s (looping x (first.to + 1) (first.to + 2)) inner (first.to + 3) first.lists in
        let d = step_more inner step body.to body.lists in
        let e = test_more inner c (first.to + 3) next.to next.lists in
        omega (arith, a, b, d, e)
    written_more (Break at) x scope from l = omega arith
    written_more (Continue at) x scope from l = omega arith
    written_more (Return None at) x scope from l = omega arith
    written_more (Return (Some e) at) x scope from l = due_more p scope x.gives e from (length scope) (length scope) l
    written_more (Transaction kind ss at) x scope from l = stmts_more ss (in_transaction kind x) scope (from + 1) l
    written_more (Cancel at) x scope from l = omega arith
    written_more (CancelOuter at) x scope from l = omega arith

    pub stmts_more : (ss : Stmts) (x : Exits) (scope : LocalScope) (from : ℕ) (l : Lists) → l.registers ≤ (stmts_code p ss x scope from l).lists.registers
    stmts_more Stmts.[] x scope from l = omega arith
    stmts_more (Stmts.◌∷◌ s ss) x scope from l =
        let first = stmt_code p s x scope from l in
        let a = written_more s x scope from l in
        let b = stmts_more ss x (locals_after s scope) first.to first.lists in
        omega (arith, a, b)
