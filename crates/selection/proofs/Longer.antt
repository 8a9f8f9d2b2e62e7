-- What follows in a body only makes the lists longer, and keeps what is preloaded.
use Rattle.std.proofs.Common.{ℕ, suc, ◌+◌, List, [], ◌∷◌, ◌++◌, length, Option, Some, None, Bool, true, false, subst, sym, refl, arith}
use Rattle.lex.specs.declared.token.Scalar.{Scalar}
use Rattle.syntax.specs.declared.tree.BinaryOp.{BinaryOp}
use Rattle.syntax.specs.Tree.{Expr, Variable, Constant, Element, Simple, Evaluate, Assign, Adjust, Declarator, Start, Nothing, Declares, Does, Stmt, Stmts, Empty, Declare, Do, Block, Print, If, IfElse, While, DoWhile, For, Break, Continue, Return, Transaction, Cancel, CancelOuter, Program}
use Rattle.syntax.specs.Numbers.{operand_type, result_type}
use Rattle.syntax.specs.Names.{newest, global_of, GlobalCells}
use Rattle.syntax.specs.Formats.{Piece, Literal, Specifier, pieces}
use Rattle.syntax.specs.Meaning.{op_of}
use Rattle.lower_spec.specs.Expressions.{LocalScope}
use Rattle.lower_spec.specs.Statements.{with_local, locals_of_start, locals_after}
use Rattle.selection.specs.declared.locations.AssignmentTarget.{AssignmentTarget}
use Rattle.selection.specs.declared.locations.AssignmentTarget.TheVariants as target
use Rattle.selection.specs.declared.locations.Exits.{Exits}
use Rattle.selection.specs.Lists.{Lists, with_register}
use Rattle.selection.specs.Expressions.{Emitted, above, converting, converted_by, both, constant, preloaded, emitted_type, emit, emit_all, condition}
use Rattle.selection.specs.Simples.{variable_target, element_target, target_code, above_target, target_value, home_or, target_store, type_at, taking, expr_fitting, value_or_one, type_or_int, compound_value, assignment_code, compound_code, simple_written, first_written, declarator_written, declared_written, start_written}
use Rattle.selection.specs.Statements.{in_transaction, looping, pieces_written, for_test, for_step, stmt_code, stmts_code}
use Rattle.selection.proofs.stands.Standing.{Grows, grows_same, grows_further, grows_used, front_same, front_more}
use Rattle.selection.proofs.LongerExprs.{used_longer, ready_longer, converted_longer, emitted_longer, due_longer, all_longer, condition_longer, operand_longer}
use Rattle.selection.proofs.Leaner.{stored_keeps}

target_longer : (x : Option (ℕ × Scalar)) (g : Option GlobalCells) (from : ℕ) (l : Lists) → Grows l (variable_target x g from l).lists
target_longer (Some x) g from l = used_longer x.0 l
target_longer None (Some g) from l = grows_same l
target_longer None None from l = grows_same l

element_longer : (check : Bool) (g : Option GlobalCells) (i : Emitted) (from : ℕ) (l : Lists) → Grows l i.lists → Grows l (element_target check g i from l).lists
element_longer check (Some g) i from l h = h
element_longer check None i from l h = grows_same l

fetched_longer : (t : AssignmentTarget) (from free : ℕ) (l : Lists) → Grows l (target_value t from free l).lists
fetched_longer (target.Local i t) from free l = used_longer i l
fetched_longer (target.Cell c t) from free l = used_longer free l
fetched_longer (target.Element i c n t) from free l = used_longer free l
fetched_longer target.Nowhere from free l = used_longer free l

stored_longer : (t : AssignmentTarget) (a from : ℕ) (l m : Lists) → Grows l m → Grows l (target_store t a from m).lists
stored_longer t a from l m h = subst (λ (x : Lists). Grows l x) (sym (stored_keeps t a from m)) h

expr_fitting_longer : (t : AssignmentTarget) (s : Scalar) (e' : Expr) (e : Emitted) (from into : ℕ) (l : Lists) → Grows l e.lists → Grows l (expr_fitting t s e' e from into l).lists
expr_fitting_longer t s (Constant n x at) e from into l h = used_longer into l
expr_fitting_longer t s e' e from into l h = converted_longer (taking t s) (type_at t) e into l h

pieces_longer : (ps : List Piece) (rs : List ℕ) (from : ℕ) (l : Lists) → Grows l (pieces_written ps rs from l).lists
pieces_longer [] rs from l = grows_same l
pieces_longer (Literal text ∷ ps) rs from l =
    let more : Lists = record l { texts = l.texts ++ text ∷ [] } in
    let first : Grows l more = record { arguments = front_same l.arguments; texts = front_more l.texts (text ∷ []); registers = omega arith; layout = refl } in
    grows_further l more (pieces_written ps rs (from + 1) more).lists first (pieces_longer ps rs (from + 1) more)
pieces_longer (Specifier t ∷ ps) [] from l = grows_same l
pieces_longer (Specifier t ∷ ps) (r ∷ rs) from l = pieces_longer ps rs (from + 1) l

module _ (p : Program) (scope : LocalScope) where
  aimed_longer : (check : Bool) (e : Expr) (from free : ℕ) (l : Lists) → Grows l (target_code p scope check e from free l).lists
  aimed_longer check (Variable x) from free l = target_longer (newest scope x.text) (global_of p x.text) from l
  aimed_longer check (Element x i at) from free l = element_longer check (global_of p x.text) (emit p scope i from free free l) from l (emitted_longer p scope i from free free l)
  aimed_longer check e from free l = grows_same l

  one_longer : (u : Scalar) (by : Option Expr) (from free : ℕ) (l : Lists) → Grows l (value_or_one p scope u by from free l).lists
  one_longer u None from free l = ready_longer (preloaded l.layout 1 u from) l (constant 1 u from free l) (used_longer free l)
  one_longer u (Some e) from free l = operand_longer p scope u e from free l

  assigned_longer : (lhs e : Expr) (from free : ℕ) (l : Lists) → Grows l (assignment_code p scope lhs e from free l).lists
  assigned_longer lhs e from free l =
      let t = target_code p scope true lhs from free l in
      let later = above_target t.target free in
      let home = home_or t.target later in
      let first = emit p scope e t.to home later t.lists in
      let made = expr_fitting t.target (emitted_type p scope e) e first t.to home t.lists in
      stored_longer t.target made.location.register made.location.to l made.lists
      (grows_further l t.lists made.lists (aimed_longer true lhs from free l)
      (expr_fitting_longer t.target (emitted_type p scope e) e first t.to home t.lists (emitted_longer p scope e t.to home later t.lists)))

  changed_longer : (op : BinaryOp) (by : Option Expr) (t : AssignmentTarget) (from free : ℕ) (l : Lists) → Grows l (compound_value p scope op by t from free l).lists
  changed_longer op by t from free l =
      let s = type_at t in
      let u = operand_type op s (type_or_int p scope by) in
      let first = target_value t from free l in
      let old = converted_by (converting s u) u first free in
      let v = operand_type op (type_or_int p scope by) s in
      let other = value_or_one p scope v by old.location.to (above free old.location.register) old.lists in
      let home = home_or t free in
      let a = converted_longer (converting s u) u first free l (fetched_longer t from free l) in
      let b = grows_further l old.lists other.lists a (one_longer v by old.location.to (above free old.location.register) old.lists) in
      converted_longer (taking t (result_type op u)) s (both op u old other home) home l (grows_used l other.lists home b)

  adjusted_longer : (op : BinaryOp) (lhs : Expr) (by : Option Expr) (from free : ℕ) (l : Lists) → Grows l (compound_code p scope op lhs by from free l).lists
  adjusted_longer op lhs by from free l =
      let t = target_code p scope false lhs from free l in
      let later = above_target t.target free in
      let made = compound_value p scope op by t.target t.to later t.lists in
      stored_longer t.target made.location.register made.location.to l made.lists
      (grows_further l t.lists made.lists (aimed_longer false lhs from free l) (changed_longer op by t.target t.to later t.lists))

  simple_longer : (s : Simple) (from free : ℕ) (l : Lists) → Grows l (simple_written p scope s from free l).lists
  simple_longer (Evaluate e) from free l = emitted_longer p scope e from free free l
  simple_longer (Assign lhs None e) from free l = assigned_longer lhs e from free l
  simple_longer (Assign lhs (Some op) e) from free l = adjusted_longer op lhs (Some e) from free l
  simple_longer (Adjust lhs by) from free l = adjusted_longer (op_of by) lhs None from free l

module _ (p : Program) where
  first_longer : (scope : LocalScope) (i : ℕ) (t : Scalar) (first : Option Expr) (from : ℕ) (l : Lists) → Grows l (first_written p scope i t first from l).lists
  first_longer scope i t None from l = grows_same l
  first_longer scope i t (Some e) from l =
      let first = emit p scope e from i (suc i) l in
      let made = expr_fitting (target.Local i t) (emitted_type p scope e) e first from i l in
      stored_longer (target.Local i t) made.location.register made.location.to l made.lists (expr_fitting_longer (target.Local i t) (emitted_type p scope e) e first from i l (emitted_longer p scope e from i (suc i) l))

  declarator_longer : (t : Scalar) (d : Declarator) (scope : LocalScope) (from : ℕ) (l : Lists) → Grows l (declarator_written p t d scope from l).lists
  declarator_longer t d scope from l =
      let i = length scope in
      let rest = first_written p (with_local scope d.name.text t) i t d.first (from + 1) (with_register i l) in
      grows_further l (with_register i l) rest.lists (used_longer i l) (first_longer (with_local scope d.name.text t) i t d.first (from + 1) (with_register i l))

  declared_longer : (t : Scalar) (ds : List Declarator) (scope : LocalScope) (from : ℕ) (l : Lists) → Grows l (declared_written p t ds scope from l).lists
  declared_longer t [] scope from l = grows_same l
  declared_longer t (d ∷ ds) scope from l =
      let one = declarator_written p t d scope from l in
      let rest = declared_written p t ds (with_local scope d.name.text t) one.to one.lists in
      grows_further l one.lists rest.lists (declarator_longer t d scope from l) (declared_longer t ds (with_local scope d.name.text t) one.to one.lists)

  start_longer : (start : Start) (scope : LocalScope) (from : ℕ) (l : Lists) → Grows l (start_written p start scope from l).lists
  start_longer Nothing scope from l = grows_same l
  start_longer (Declares d) scope from l = declared_longer d.ty d.declarators scope from l
  start_longer (Does s) scope from l = simple_longer p scope s from (length scope) l

  test_longer : (scope : LocalScope) (c : Option Expr) (at from : ℕ) (l : Lists) → Grows l (for_test p scope c at from l).lists
  test_longer scope None at from l = grows_same l
  test_longer scope (Some c) at from l = condition_longer p scope c from (length scope) l

  step_longer : (scope : LocalScope) (s : Option Simple) (from : ℕ) (l : Lists) → Grows l (for_step p scope s from l).lists
  step_longer scope None from l = grows_same l
  step_longer scope (Some s) from l = simple_longer p scope s from (length scope) l

  mutual
    written_longer : (s : Stmt) (x : Exits) (scope : LocalScope) (from : ℕ) (l : Lists) → Grows l (stmt_code p s x scope from l).lists
    written_longer Empty x scope from l = grows_same l
    written_longer (Declare d) x scope from l = declared_longer d.ty d.declarators scope from l
    written_longer (Do s) x scope from l = simple_longer p scope s from (length scope) l
    written_longer (Block ss) x scope from l = stmts_longer ss x scope from l
    written_longer (Print at format format_at es) x scope from l =
        let args = emit_all p scope [] es (from + 1) (length scope) l in
        grows_further l args.lists (pieces_written (pieces format) args.registers args.to args.lists).lists (all_longer p scope [] es (from + 1) (length scope) l)
        (pieces_longer (pieces format) args.registers args.to args.lists)
    written_longer (If c s) x scope from l =
        let test = condition p scope c from (length scope) l in
        let first = stmt_code p s x scope (test.to + 1) test.lists in
        grows_further l test.lists first.lists (condition_longer p scope c from (length scope) l) (written_longer s x scope (test.to + 1) test.lists)
    written_longer (IfElse c s r) x scope from l =
        let test = condition p scope c from (length scope) l in
        let first = stmt_code p s x scope (test.to + 1) test.lists in
        let second = stmt_code p r x scope (first.to + 1) first.lists in
        let a = grows_further l test.lists first.lists (condition_longer p scope c from (length scope) l) (written_longer s x scope (test.to + 1) test.lists) in
        grows_further l first.lists second.lists a (written_longer r x scope (first.to + 1) first.lists)
    written_longer (While c s) x scope from l =
        let body = stmt_code p s (looping x (from + 1) from) scope (from + 2) l in
        let test = condition p scope c body.to (length scope) body.lists in
        grows_further l body.lists test.lists (written_longer s (looping x (from + 1) from) scope (from + 2) l) (condition_longer p scope c body.to (length scope) body.lists)
    written_longer (DoWhile s c) x scope from l =
        let body = stmt_code p s (looping x (from + 1) (from + 2)) scope (from + 3) l in
        let test = condition p scope c body.to (length scope) body.lists in
        grows_further l body.lists test.lists (written_longer s (looping x (from + 1) (from + 2)) scope (from + 3) l) (condition_longer p scope c body.to (length scope) body.lists)
    written_longer (For start c step s) x scope from l =
        let inner = locals_of_start start scope in
        let first = start_written p start scope from l in
        let body = stmt_code p s (looping x (first.to + 1) (first.to + 2)) inner (first.to + 3) first.lists in
        let next = for_step p inner step body.to body.lists in
        let test = for_test p inner c (first.to + 3) next.to next.lists in
        let a = grows_further l first.lists body.lists (start_longer start scope from l) (written_longer s (looping x (first.to + 1) (first.to + 2)) inner (first.to + 3) first.lists) in
        let b = grows_further l body.lists next.lists a (step_longer inner step body.to body.lists) in
        grows_further l next.lists test.lists b (test_longer inner c (first.to + 3) next.to next.lists)
    written_longer (Break at) x scope from l = grows_same l
    written_longer (Continue at) x scope from l = grows_same l
    written_longer (Return None at) x scope from l = grows_same l
    written_longer (Return (Some e) at) x scope from l = due_longer p scope x.gives e from (length scope) (length scope) l
    written_longer (Transaction kind ss at) x scope from l = stmts_longer ss (in_transaction kind x) scope (from + 1) l
    written_longer (Cancel at) x scope from l = grows_same l
    written_longer (CancelOuter at) x scope from l = grows_same l

    pub stmts_longer : (ss : Stmts) (x : Exits) (scope : LocalScope) (from : ℕ) (l : Lists) → Grows l (stmts_code p ss x scope from l).lists
    stmts_longer Stmts.[] x scope from l = grows_same l
    stmts_longer (Stmts.◌∷◌ s ss) x scope from l =
        let first = stmt_code p s x scope from l in
        let rest = stmts_code p ss x (locals_after s scope) first.to first.lists in
        grows_further l first.lists rest.lists (written_longer s x scope from l) (stmts_longer ss x (locals_after s scope) first.to first.lists)
