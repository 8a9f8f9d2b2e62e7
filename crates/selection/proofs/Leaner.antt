-- A body that finds constants preloaded needs no more registers than the body as it stands.
use Rattle.std.proofs.Common.{◌≡◌, ℕ, suc, ◌+◌, ◌≤◌, List, [], ◌∷◌, ◌++◌, length, Option, Some, None, Bool, true, false, if◌then◌else◌, ◌==◌, refl, sym, ap, subst, arith}
use Rattle.lex.specs.declared.token.Scalar.{Scalar}
use Rattle.syntax.specs.declared.tree.BinaryOp.{BinaryOp}
use Rattle.syntax.specs.Tree.{Expr, Variable, Constant, Element, Simple, Evaluate, Assign, Adjust, Declarator, Start, Nothing, Declares, Does, Stmt, Stmts, Empty, Declare, Do, Block, Print, If, IfElse, While, DoWhile, For, Break, Continue, Return, Transaction, Cancel, CancelOuter, Function, Program}
use Rattle.syntax.specs.Numbers.{operand_type, result_type}
use Rattle.syntax.specs.Names.{newest, global_of, cells, GlobalCells}
use Rattle.syntax.specs.Formats.{Piece, Literal, Specifier, pieces}
use Rattle.syntax.specs.Meaning.{op_of}
use Rattle.bytecode.specs.declared.instr.Instr.TheVariants as own
use Rattle.lower_spec.specs.Expressions.{LocalScope, Layout}
use Rattle.lower_spec.specs.Programs.{parameter_locals}
use Rattle.lower_spec.specs.Statements.{with_local, locals_of_start, locals_after}
use Rattle.selection.specs.declared.locations.AssignmentTarget.{AssignmentTarget}
use Rattle.selection.specs.declared.locations.AssignmentTarget.TheVariants as target
use Rattle.selection.specs.declared.locations.Exits.{Exits}
use Rattle.selection.specs.Lists.{Lists, with_register}
use Rattle.selection.specs.Expressions.{Emitted, above, constant, preloaded, converting, converted_by, both, emitted_type, emit, as_type, emit_all, condition}
use Rattle.selection.specs.Simples.{nothing_written, one_written, variable_target, element_target, target_code, above_target, target_value, home_or, target_store, type_at, taking, expr_fitting, value_or_one, type_or_int, compound_value, assignment_code, compound_code, simple_written, first_written, declarator_written, declared_written, start_written}
use Rattle.selection.specs.Statements.{in_transaction, looping, pieces_written, for_test, for_step, stmt_code, stmts_code}
use Rattle.selection.specs.Programs.{no_exits, body_with, nothing_preloaded}
use Rattle.selection.proofs.Growing.{used_more}
use Rattle.selection.proofs.LeanerExprs.{IsLeaner, used_leaner, none_ready, right_leaner, converted_leaner, converted_register, same_register, same_registers, emitted_leaner, due_leaner, all_leaner, condition_leaner, operand_leaner}

target_leaner : (x : Option (ℕ × Scalar)) (g : Option GlobalCells) (from to : ℕ) (l m : Lists) → IsLeaner l m → IsLeaner (variable_target x g from l).lists (variable_target x g to m).lists
target_leaner (Some x) g from to l m h = used_leaner x.0 l m h
target_leaner None (Some g) from to l m h = h
target_leaner None None from to l m h = h

same_target : (x : Option (ℕ × Scalar)) (g : Option GlobalCells) (from to : ℕ) (l m : Lists) → (variable_target x g from l).target ≡ (variable_target x g to m).target
same_target (Some x) g from to l m = refl
same_target None (Some g) from to l m = refl
same_target None None from to l m = refl

element_leaner : (check : Bool) (g : Option GlobalCells) (i j : Emitted) (from to : ℕ) (l m : Lists) → IsLeaner l m → IsLeaner i.lists j.lists → IsLeaner (element_target check g i from l).lists (element_target check g j to m).lists
element_leaner check (Some g) i j from to l m h k = k
element_leaner check None i j from to l m h k = h

same_element : (check : Bool) (g : Option GlobalCells) (i j : Emitted) (from to : ℕ) (l m : Lists) → i.location.register ≡ j.location.register → (element_target check g i from l).target ≡ (element_target check g j to m).target
same_element check (Some g) i j from to l m same = ap (λ (r : ℕ). target.Element r g.cell (cells g.global) g.global.ty) same
same_element check None i j from to l m same = refl

fetched_leaner : (t : AssignmentTarget) (from to free : ℕ) (l m : Lists) → IsLeaner l m → IsLeaner (target_value t from free l).lists (target_value t to free m).lists
fetched_leaner (target.Local i t) from to free l m h = used_leaner i l m h
fetched_leaner (target.Cell c t) from to free l m h = used_leaner free l m h
fetched_leaner (target.Element i c n t) from to free l m h = used_leaner free l m h
fetched_leaner target.Nowhere from to free l m h = used_leaner free l m h

same_fetched : (t : AssignmentTarget) (from to free : ℕ) (l m : Lists) → (target_value t from free l).location.register ≡ (target_value t to free m).location.register
same_fetched (target.Local i t) from to free l m = refl
same_fetched (target.Cell c t) from to free l m = refl
same_fetched (target.Element i c n t) from to free l m = refl
same_fetched target.Nowhere from to free l m = refl

pub stored_keeps : (t : AssignmentTarget) (a from : ℕ) (l : Lists) → (target_store t a from l).lists ≡ l
stored_keeps (target.Local i t) a from l = by (a == i)
  where
    by : (b : Bool) → (if b then nothing_written from l else one_written (own.Move i a) from l).lists ≡ l
    by true = refl
    by false = refl
stored_keeps (target.Cell c t) a from l = refl
stored_keeps (target.Element i c n t) a from l = refl
stored_keeps target.Nowhere a from l = refl

stored_leaner : (t t' : AssignmentTarget) (a b from to : ℕ) (l m : Lists) → IsLeaner l m → IsLeaner (target_store t a from l).lists (target_store t' b to m).lists
stored_leaner t t' a b from to l m h =
    subst (λ (x : Lists). IsLeaner x (target_store t' b to m).lists) (sym (stored_keeps t a from l))
    (subst (λ (x : Lists). IsLeaner l x) (sym (stored_keeps t' b to m)) h)

expr_fitting_leaner : (t : AssignmentTarget) (s : Scalar) (e' : Expr) (e d : Emitted) (from to into : ℕ) (l m : Lists) → IsLeaner l m → IsLeaner e.lists d.lists → IsLeaner (expr_fitting t s e' e from into l).lists (expr_fitting t s e' d to into m).lists
expr_fitting_leaner t s (Constant n x at) e d from to into l m h k = used_leaner into l m h
expr_fitting_leaner t s e' e d from to into l m h k = converted_leaner (taking t s) (type_at t) e d into k

pieces_leaner : (ps : List Piece) (rs : List ℕ) (from to : ℕ) (l m : Lists) → IsLeaner l m → IsLeaner (pieces_written ps rs from l).lists (pieces_written ps rs to m).lists
pieces_leaner [] rs from to l m h = h
pieces_leaner (Literal text ∷ ps) rs from to l m h =
    pieces_leaner ps rs (from + 1) (to + 1) (record l { texts = l.texts ++ text ∷ [] }) (record m { texts = m.texts ++ text ∷ [] }) (record { registers = h.registers; nothing = h.nothing })
pieces_leaner (Specifier t ∷ ps) [] from to l m h = h
pieces_leaner (Specifier t ∷ ps) (r ∷ rs) from to l m h = pieces_leaner ps rs (from + 1) (to + 1) l m h

module _ (p : Program) (scope : LocalScope) where
  aimed_leaner : (check : Bool) (e : Expr) (from to free : ℕ) (l m : Lists) → IsLeaner l m → IsLeaner (target_code p scope check e from free l).lists (target_code p scope check e to free m).lists
  aimed_leaner check (Variable x) from to free l m h = target_leaner (newest scope x.text) (global_of p x.text) from to l m h
  aimed_leaner check (Element x i at) from to free l m h =
      element_leaner check (global_of p x.text) (emit p scope i from free free l) (emit p scope i to free free m) from to l m h (emitted_leaner p scope i from to free free l m h)
  aimed_leaner check e from to free l m h = h

  same_aim : (check : Bool) (e : Expr) (from to free : ℕ) (l m : Lists) → (target_code p scope check e from free l).target ≡ (target_code p scope check e to free m).target
  same_aim check (Variable x) from to free l m = same_target (newest scope x.text) (global_of p x.text) from to l m
  same_aim check (Element x i at) from to free l m =
      same_element check (global_of p x.text) (emit p scope i from free free l) (emit p scope i to free free m) from to l m (same_register p scope i from to free free l m)
  same_aim check e from to free l m = refl

  one_leaner : (u : Scalar) (by : Option Expr) (from to free : ℕ) (l m : Lists) → IsLeaner l m → IsLeaner (value_or_one p scope u by from free l).lists (value_or_one p scope u by to free m).lists
  one_leaner u None from to free l m h =
      right_leaner (preloaded l.layout 1 u from) (preloaded m.layout 1 u to) l m (constant 1 u from free l) (constant 1 u to free m)
      (none_ready l.layout 1 u from h.nothing) h (used_leaner free l m h) (used_more free l)
  one_leaner u (Some e) from to free l m h = operand_leaner p scope u e from to free l m h

  -- a value, and where it goes
  assigned_leaner : (lhs e : Expr) (from to free : ℕ) (l m : Lists) → IsLeaner l m → IsLeaner (assignment_code p scope lhs e from free l).lists (assignment_code p scope lhs e to free m).lists
  assigned_leaner lhs e from to free l m h =
      let t = target_code p scope true lhs from free l in
      let t' = target_code p scope true lhs to free m in
      let s = emitted_type p scope e in
      let a = aimed_leaner true lhs from to free l m h in
      let made = λ (x : AssignmentTarget). expr_fitting x s e (emit p scope e t.to (home_or x (above_target x free)) (above_target x free) t.lists) t.to (home_or x (above_target x free)) t.lists in
      let other = λ (x : AssignmentTarget). expr_fitting x s e (emit p scope e t'.to (home_or x (above_target x free)) (above_target x free) t'.lists) t'.to (home_or x (above_target x free)) t'.lists in
      let later = above_target t.target free in
      let home = home_or t.target later in
      let b = expr_fitting_leaner t.target s e (emit p scope e t.to home later t.lists) (emit p scope e t'.to home later t'.lists) t.to t'.to home t.lists t'.lists a (emitted_leaner p scope e t.to t'.to home later t.lists t'.lists a) in
      let c = subst (λ (x : AssignmentTarget). IsLeaner (made t.target).lists (other x).lists) (same_aim true lhs from to free l m) b in
      stored_leaner t.target t'.target (made t.target).location.register (other t'.target).location.register (made t.target).location.to (other t'.target).location.to (made t.target).lists (other t'.target).lists c

  -- the old value, another one behind it, and the operator on both
  changed_leaner : (op : BinaryOp) (by : Option Expr) (t : AssignmentTarget) (from to free : ℕ) (l m : Lists) → IsLeaner l m → IsLeaner (compound_value p scope op by t from free l).lists (compound_value p scope op by t to free m).lists
  changed_leaner op by t from to free l m h =
      let s = type_at t in
      let u = operand_type op s (type_or_int p scope by) in
      let v = operand_type op (type_or_int p scope by) s in
      let old = converted_by (converting s u) u (target_value t from free l) free in
      let old' = converted_by (converting s u) u (target_value t to free m) free in
      let right = value_or_one p scope v by old.location.to (above free old.location.register) old.lists in
      let right' = λ (r : ℕ). value_or_one p scope v by old'.location.to (above free r) old'.lists in
      let home = home_or t free in
      let a = converted_leaner (converting s u) u (target_value t from free l) (target_value t to free m) free (fetched_leaner t from to free l m h) in
      let b = one_leaner v by old.location.to old'.location.to (above free old.location.register) old.lists old'.lists a in
      let c = subst (λ (r : ℕ). IsLeaner right.lists (right' r).lists) (converted_register (converting s u) u (target_value t from free l) (target_value t to free m) free (same_fetched t from to free l m)) b in
      converted_leaner (taking t (result_type op u)) s (both op u old right home) (both op u old' (right' old'.location.register) home) home (used_leaner home right.lists (right' old'.location.register).lists c)

  adjusted_leaner : (op : BinaryOp) (lhs : Expr) (by : Option Expr) (from to free : ℕ) (l m : Lists) → IsLeaner l m → IsLeaner (compound_code p scope op lhs by from free l).lists (compound_code p scope op lhs by to free m).lists
  adjusted_leaner op lhs by from to free l m h =
      let t = target_code p scope false lhs from free l in
      let t' = target_code p scope false lhs to free m in
      let a = aimed_leaner false lhs from to free l m h in
      let made = compound_value p scope op by t.target t.to (above_target t.target free) t.lists in
      let other = λ (x : AssignmentTarget). compound_value p scope op by x t'.to (above_target x free) t'.lists in
      let b = changed_leaner op by t.target t.to t'.to (above_target t.target free) t.lists t'.lists a in
      let c = subst (λ (x : AssignmentTarget). IsLeaner made.lists (other x).lists) (same_aim false lhs from to free l m) b in
      stored_leaner t.target t'.target made.location.register (other t'.target).location.register made.location.to (other t'.target).location.to made.lists (other t'.target).lists c

  simple_leaner : (s : Simple) (from to free : ℕ) (l m : Lists) → IsLeaner l m → IsLeaner (simple_written p scope s from free l).lists (simple_written p scope s to free m).lists
  simple_leaner (Evaluate e) from to free l m h = emitted_leaner p scope e from to free free l m h
  simple_leaner (Assign lhs None e) from to free l m h = assigned_leaner lhs e from to free l m h
  simple_leaner (Assign lhs (Some op) e) from to free l m h = adjusted_leaner op lhs (Some e) from to free l m h
  simple_leaner (Adjust lhs by) from to free l m h = adjusted_leaner (op_of by) lhs None from to free l m h

module _ (p : Program) where
  first_leaner : (scope : LocalScope) (i : ℕ) (t : Scalar) (first : Option Expr) (from to : ℕ) (l m : Lists) → IsLeaner l m → IsLeaner (first_written p scope i t first from l).lists (first_written p scope i t first to m).lists
  first_leaner scope i t None from to l m h = h
  first_leaner scope i t (Some e) from to l m h =
      let s = emitted_type p scope e in
      let first = emit p scope e from i (suc i) l in
      let first' = emit p scope e to i (suc i) m in
      let made = expr_fitting (target.Local i t) s e first from i l in
      let other = expr_fitting (target.Local i t) s e first' to i m in
      stored_leaner (target.Local i t) (target.Local i t) made.location.register other.location.register made.location.to other.location.to made.lists other.lists (expr_fitting_leaner (target.Local i t) s e first first' from to i l m h (emitted_leaner p scope e from to i (suc i) l m h))

  declarator_leaner : (t : Scalar) (d : Declarator) (scope : LocalScope) (from to : ℕ) (l m : Lists) → IsLeaner l m → IsLeaner (declarator_written p t d scope from l).lists (declarator_written p t d scope to m).lists
  declarator_leaner t d scope from to l m h =
      let n = length scope in first_leaner (with_local scope d.name.text t) n t d.first (from + 1) (to + 1) (with_register n l) (with_register n m) (used_leaner n l m h)

  declared_leaner : (t : Scalar) (ds : List Declarator) (scope : LocalScope) (from to : ℕ) (l m : Lists) → IsLeaner l m → IsLeaner (declared_written p t ds scope from l).lists (declared_written p t ds scope to m).lists
  declared_leaner t [] scope from to l m h = h
  declared_leaner t (d ∷ ds) scope from to l m h =
      let one = declarator_written p t d scope from l in
      let other = declarator_written p t d scope to m in
      declared_leaner t ds (with_local scope d.name.text t) one.to other.to one.lists other.lists (declarator_leaner t d scope from to l m h)

  start_leaner : (start : Start) (scope : LocalScope) (from to : ℕ) (l m : Lists) → IsLeaner l m → IsLeaner (start_written p start scope from l).lists (start_written p start scope to m).lists
  start_leaner Nothing scope from to l m h = h
  start_leaner (Declares d) scope from to l m h = declared_leaner d.ty d.declarators scope from to l m h
  start_leaner (Does s) scope from to l m h = simple_leaner p scope s from to (length scope) l m h

  test_leaner : (scope : LocalScope) (c : Option Expr) (at at' from to : ℕ) (l m : Lists) → IsLeaner l m → IsLeaner (for_test p scope c at from l).lists (for_test p scope c at' to m).lists
  test_leaner scope None at at' from to l m h = h
  test_leaner scope (Some c) at at' from to l m h = condition_leaner p scope c from to (length scope) l m h

  step_leaner : (scope : LocalScope) (s : Option Simple) (from to : ℕ) (l m : Lists) → IsLeaner l m → IsLeaner (for_step p scope s from l).lists (for_step p scope s to m).lists
  step_leaner scope None from to l m h = h
  step_leaner scope (Some s) from to l m h = simple_leaner p scope s from to (length scope) l m h

  mutual
    written_leaner : (s : Stmt) (x y : Exits) (scope : LocalScope) (from to : ℕ) (l m : Lists) → x.gives ≡ y.gives → IsLeaner l m → IsLeaner (stmt_code p s x scope from l).lists (stmt_code p s y scope to m).lists
    written_leaner Empty x y scope from to l m g h = h
    written_leaner (Declare d) x y scope from to l m g h = declared_leaner d.ty d.declarators scope from to l m h
    written_leaner (Do s) x y scope from to l m g h = simple_leaner p scope s from to (length scope) l m h
    written_leaner (Block ss) x y scope from to l m g h = stmts_leaner ss x y scope from to l m g h
    written_leaner (Print at format format_at es) x y scope from to l m g h =
        let args = emit_all p scope [] es (from + 1) (length scope) l in
        let others = emit_all p scope [] es (to + 1) (length scope) m in
        subst (λ (rs : List ℕ). IsLeaner (pieces_written (pieces format) args.registers args.to args.lists).lists (pieces_written (pieces format) rs others.to others.lists).lists) (same_registers p scope [] es (from + 1) (to + 1) (length scope) l m)
        (pieces_leaner (pieces format) args.registers args.to others.to args.lists others.lists (all_leaner p scope [] es (from + 1) (to + 1) (length scope) l m h))
    written_leaner (If c s) x y scope from to l m g h =
        let test = condition p scope c from (length scope) l in
        let other = condition p scope c to (length scope) m in
        written_leaner s x y scope (test.to + 1) (other.to + 1) test.lists other.lists g (condition_leaner p scope c from to (length scope) l m h)
    written_leaner (IfElse c s r) x y scope from to l m g h =
        let test = condition p scope c from (length scope) l in
        let other = condition p scope c to (length scope) m in
        let first = stmt_code p s x scope (test.to + 1) test.lists in
        let first' = stmt_code p s y scope (other.to + 1) other.lists in
        let a = condition_leaner p scope c from to (length scope) l m h in
        let b = written_leaner s x y scope (test.to + 1) (other.to + 1) test.lists other.lists g a in
        written_leaner r x y scope (first.to + 1) (first'.to + 1) first.lists first'.lists g b
    written_leaner (While c s) x y scope from to l m g h =
        let body = stmt_code p s (looping x (from + 1) from) scope (from + 2) l in
        let other = stmt_code p s (looping y (to + 1) to) scope (to + 2) m in
        let a = written_leaner s (looping x (from + 1) from) (looping y (to + 1) to) scope (from + 2) (to + 2) l m g h in
        condition_leaner p scope c body.to other.to (length scope) body.lists other.lists a
    written_leaner (DoWhile s c) x y scope from to l m g h =
        let body = stmt_code p s (looping x (from + 1) (from + 2)) scope (from + 3) l in
        let other = stmt_code p s (looping y (to + 1) (to + 2)) scope (to + 3) m in
        let a = written_leaner s (looping x (from + 1) (from + 2)) (looping y (to + 1) (to + 2)) scope (from + 3) (to + 3) l m g h in
        condition_leaner p scope c body.to other.to (length scope) body.lists other.lists a
    written_leaner (For start c step s) x y scope from to l m g h =
        let inner = locals_of_start start scope in
        let first = start_written p start scope from l in
        let first' = start_written p start scope to m in
        let body = stmt_code p s (looping x (first.to + 1) (first.to + 2)) inner (first.to + 3) first.lists in
        let body' = stmt_code p s (looping y (first'.to + 1) (first'.to + 2)) inner (first'.to + 3) first'.lists in
        let next = for_step p inner step body.to body.lists in
        let next' = for_step p inner step body'.to body'.lists in
        let a = start_leaner start scope from to l m h in
        let b = written_leaner s (looping x (first.to + 1) (first.to + 2)) (looping y (first'.to + 1) (first'.to + 2)) inner (first.to + 3) (first'.to + 3) first.lists first'.lists g a in
        let d = step_leaner inner step body.to body'.to body.lists body'.lists b in
        test_leaner inner c (first.to + 3) (first'.to + 3) next.to next'.to next.lists next'.lists d
    written_leaner (Break at) x y scope from to l m g h = h
    written_leaner (Continue at) x y scope from to l m g h = h
    written_leaner (Return None at) x y scope from to l m g h = h
    written_leaner (Return (Some e) at) x y scope from to l m g h =
        subst (λ (u : Scalar). IsLeaner (as_type p scope x.gives e from (length scope) (length scope) l).lists (as_type p scope u e to (length scope) (length scope) m).lists) g
        (due_leaner p scope x.gives e from to (length scope) (length scope) l m h)
    written_leaner (Transaction kind ss at) x y scope from to l m g h = stmts_leaner ss (in_transaction kind x) (in_transaction kind y) scope (from + 1) (to + 1) l m g h
    written_leaner (Cancel at) x y scope from to l m g h = h
    written_leaner (CancelOuter at) x y scope from to l m g h = h

    stmts_leaner : (ss : Stmts) (x y : Exits) (scope : LocalScope) (from to : ℕ) (l m : Lists) → x.gives ≡ y.gives → IsLeaner l m → IsLeaner (stmts_code p ss x scope from l).lists (stmts_code p ss y scope to m).lists
    stmts_leaner Stmts.[] x y scope from to l m g h = h
    stmts_leaner (Stmts.◌∷◌ s ss) x y scope from to l m g h =
        let first = stmt_code p s x scope from l in
        let other = stmt_code p s y scope to m in
        stmts_leaner ss x y (locals_after s scope) first.to other.to first.lists other.lists g (written_leaner s x y scope from to l m g h)

-- a body
pub body_leaner : (p : Program) (f : Function) (body : Stmts) (layout : Layout) (from to : ℕ) (l m : Lists) → (body_with layout p f body to m).lists.registers ≤ (body_with nothing_preloaded p f body from l).lists.registers
body_leaner p f body layout from to l m =
    let n = length f.parameters in
    let first : Lists = record l { registers = n; layout = nothing_preloaded } in
    let other : Lists = record m { registers = n; layout = layout } in
    let h = stmts_leaner p body (no_exits f.result) (no_exits f.result) (parameter_locals f.parameters) from to first other refl (record { registers = omega arith; nothing = refl }) in
    h.registers
