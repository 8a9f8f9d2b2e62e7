-- The instructions that are picked for assignments and declarations.
use Rattle.std.specs.Prelude.{ℕ, suc, ◌+◌, List, [], ◌∷◌, ◌++◌, length, Option, Some, None, Bool, true, false}
use Rattle.std.specs.Prelude.{if◌then◌else◌, ◌==◌}
use Rattle.lex.specs.declared.token.Scalar.{Scalar}
use Rattle.lex.specs.declared.token.Scalar.TheVariants.{Int, LongLong}
use Rattle.syntax.specs.declared.tree.BinaryOp.{BinaryOp}
use Rattle.syntax.specs.Tree.{Expr, Variable, Constant, Element, Simple, Evaluate, Assign, Adjust, Declarator, Start}
use Rattle.syntax.specs.Tree.{Nothing, Declares, Does, Program}
use Rattle.syntax.specs.Names.{newest, global_of, cells, GlobalCells}
use Rattle.syntax.specs.Numbers.{operand_type, result_type}
use Rattle.syntax.specs.Meaning.{op_of}
use Rattle.bytecode.specs.declared.instr.Instr.{Instr}
use Rattle.bytecode.specs.declared.instr.Instr.TheVariants as own
use Rattle.selection.specs.declared.locations.AssignmentTarget.{AssignmentTarget}
use Rattle.selection.specs.declared.locations.AssignmentTarget.TheVariants as target
use Rattle.selection.specs.Lists.{Lists, with_register}
use Rattle.lower_spec.specs.Expressions.{LocalScope, constant_in}
use Rattle.lower_spec.specs.Statements.{with_local}
use Rattle.selection.specs.Expressions.{Emitted, above, one, constant, preloaded, preloaded_or, in_local, converting}
use Rattle.selection.specs.Expressions.{converted_by}
use Rattle.selection.specs.Expressions.{both, emitted_type, emit, operand}

-- instructions, the lists after them, and the place after them
pub record Written : Type 0 where
  pub code : List Instr
  pub lists : Lists
  pub to : ℕ

-- instructions that determine the target of an assignment
pub record Aimed : Type 0 where
  pub code : List Instr
  pub lists : Lists
  pub target : AssignmentTarget
  pub to : ℕ

abbrev pub nothing_written : ℕ → Lists → Written
nothing_written from l = record { code = []; lists = l; to = from }

abbrev pub aimed_at : AssignmentTarget → ℕ → Lists → Aimed
aimed_at t from l = record { code = []; lists = l; target = t; to = from }

abbrev pub variable_target : Option (ℕ × Scalar) → Option GlobalCells → ℕ → Lists → Aimed
variable_target (Some x) g from l = aimed_at (target.Local x.0 x.1) from (with_register x.0 l)
variable_target None (Some g) from l = aimed_at (target.Cell g.cell g.global.ty) from l
variable_target None None from l = aimed_at target.Nowhere from l

-- an element's index is computed first, and tested if nothing is read there at once
abbrev pub checked_by : Bool → ℕ → ℕ → List Instr
checked_by true i n = own.Check i n ∷ []
checked_by false i n = []

abbrev pub checks : Bool → ℕ
checks true = 1
checks false = 0

abbrev pub element_target : Bool → Option GlobalCells → Emitted → ℕ → Lists → Aimed
element_target check None i from l = aimed_at target.Nowhere from l
element_target check (Some g) i from l = record {
  code = i.code ++ checked_by check i.location.register (cells g.global);
  lists = i.lists;
  target = target.Element i.location.register g.cell (cells g.global) g.global.ty;
  to = i.location.to + checks check;
}

-- the first register that a target leaves free
abbrev pub above_target : AssignmentTarget → ℕ → ℕ
above_target (target.Element i cell n t) free = above free i
above_target t free = free

-- the old value
abbrev pub target_value : AssignmentTarget → (from free : ℕ) → Lists → Emitted
target_value (target.Local i t) from free l = in_local i t from l
target_value (target.Cell c t) from free l = one (own.Read free c) from free t l
target_value (target.Element i c n t) from free l = one (own.ReadAt free i c n) from free t l
target_value target.Nowhere from free l = constant 0 Int from free l

-- the register that receives the value: a local's own, or else a free one
abbrev pub home_or : AssignmentTarget → ℕ → ℕ
home_or (target.Local i t) free = i
home_or t free = free

abbrev pub one_written : Instr → ℕ → Lists → Written
one_written i from l = record { code = i ∷ []; lists = l; to = from + 1 }

-- a value goes to its target, unless it is there already
abbrev pub target_store : AssignmentTarget → ℕ → ℕ → Lists → Written
target_store (target.Local i t) a from l = if a == i then nothing_written from l else one_written (own.Move i a) from l
target_store (target.Cell c t) a from l = one_written (own.Write a c) from l
target_store (target.Element i c n t) a from l = one_written (own.WriteAt i a c n) from l
target_store target.Nowhere a from l = nothing_written from l

-- the type of a target's contents
abbrev pub type_at : AssignmentTarget → Scalar
type_at (target.Local i t) = t
type_at (target.Cell c t) = t
type_at (target.Element i c n t) = t
type_at target.Nowhere = Int

-- the instruction of a conversion on the way to a cell, unless the write truncates to the lower half by itself
abbrev pub widening : (s u : Scalar) → Option (ℕ → ℕ → Instr)
widening Int LongLong = Some own.Extend
widening s u = None

-- the instruction that a value of this type needs on its way to a target
abbrev pub taking : AssignmentTarget → Scalar → Option (ℕ → ℕ → Instr)
taking (target.Local i t) s = converting s t
taking (target.Cell c t) s = widening s t
taking (target.Element i c n t) s = widening s t
taking target.Nowhere s = None

-- a value of type s on its way to a target
abbrev pub fitting : AssignmentTarget → Scalar → Emitted → (into : ℕ) → Emitted
fitting t s e into = converted_by (taking t s) (type_at t) e into

-- an expression's value on its way to a target: a constant is set after conversion
abbrev pub expr_fitting : AssignmentTarget → Scalar → Expr → Emitted → (from into : ℕ) → Lists → Emitted
expr_fitting t s (Constant n x at) e from into l = constant (constant_in (type_at t) x n) (type_at t) from into l
expr_fitting t s e' e from into l = fitting t s e into

-- two fragments of instructions, one after another
abbrev pub and_then : Written → Written → Written
and_then a b = record { code = a.code ++ b.code; lists = b.lists; to = b.to }

abbrev pub code_of_value : Emitted → Written
code_of_value e = record { code = e.code; lists = e.lists; to = e.location.to }

abbrev pub then_stored : AssignmentTarget → Emitted → Written
then_stored t e = and_then (code_of_value e) (target_store t e.location.register e.location.to e.lists)

abbrev pub behind : Aimed → Written → Written
behind t w = record { code = t.code ++ w.code; lists = w.lists; to = w.to }

-- the 1 that is added or subtracted
abbrev pub emitted_one : Scalar → (from free : ℕ) → Lists → Emitted
emitted_one u from free l = preloaded_or (preloaded l.layout 1 u from) l (constant 1 u from free l)

module _ (p : Program) (scope : LocalScope) where
  -- the target of an assignment, with a test of the index or without
  abbrev pub target_code : Bool → Expr → (from free : ℕ) → Lists → Aimed
  target_code check (Variable x) from free l = variable_target (newest scope x.text) (global_of p x.text) from l
  target_code check (Element x i at) from free l =
      element_target check (global_of p x.text) (emit p scope i from free free l) from l
  target_code check e from free l = aimed_at target.Nowhere from l

  -- the right side of an operator in the type that is due: a value, or else 1
  abbrev pub value_or_one : Scalar → Option Expr → (from free : ℕ) → Lists → Emitted
  value_or_one u None from free l = emitted_one u from free l
  value_or_one u (Some e) from free l = operand p scope u e from free l

  -- the type of an operator's right side, and int for the 1 that is added or subtracted
  abbrev pub type_or_int : Option Expr → Scalar
  type_or_int None = Int
  type_or_int (Some e) = emitted_type p scope e

  -- an expression's value on its way to a target
  abbrev pub stored_value : AssignmentTarget → Expr → (from home free : ℕ) → Lists → Emitted
  stored_value t e from home free l =
      expr_fitting t (emitted_type p scope e) e (emit p scope e from home free l) from home l

  abbrev pub assignment_code : Expr → Expr → (from free : ℕ) → Lists → Written
  assignment_code lhs e from free l =
      let t = target_code true lhs from free l in
      let later = above_target t.target free in
      behind t (then_stored t.target (stored_value t.target e t.to (home_or t.target later) later t.lists))

  -- the old value, another one, and the operator on both, whose result replaces the old value
  abbrev pub compound_value : BinaryOp → Option Expr → AssignmentTarget → (from free : ℕ) → Lists → Emitted
  compound_value op by t from free l =
      let s = type_at t in
      let u = operand_type op s (type_or_int by) in
      let old = converted_by (converting s u) u (target_value t from free l) free in
      let v = operand_type op (type_or_int by) s in
      let other = value_or_one v by old.location.to (above free old.location.register) old.lists in
      let home = home_or t free in
      fitting t (result_type op u) (both op u old other home) home

  abbrev pub compound_code : BinaryOp → Expr → Option Expr → (from free : ℕ) → Lists → Written
  compound_code op lhs by from free l =
      let t = target_code false lhs from free l in
      behind t (then_stored t.target (compound_value op by t.target t.to (above_target t.target free) t.lists))

  abbrev pub simple_written : Simple → (from free : ℕ) → Lists → Written
  simple_written (Evaluate e) from free l = code_of_value (emit p scope e from free free l)
  simple_written (Assign lhs None e) from free l = assignment_code lhs e from free l
  simple_written (Assign lhs (Some op) e) from free l = compound_code op lhs (Some e) from free l
  simple_written (Adjust lhs by) from free l = compound_code (op_of by) lhs None from free l

-- the first value of the local in this register, after which the registers are free
abbrev pub first_written : Program → LocalScope → ℕ → Scalar → Option Expr → ℕ → Lists → Written
first_written p scope i t None from l = nothing_written from l
first_written p scope i t (Some e) from l =
    then_stored (target.Local i t) (stored_value p scope (target.Local i t) e from i (suc i) l)

-- a declared local is set to 0 and then has its first value
abbrev pub declarator_written : Program → Scalar → Declarator → LocalScope → ℕ → Lists → Written
declarator_written p t d scope from l =
    let i = length scope in
    let first = first_written p (with_local scope d.name.text t) i t d.first (from + 1) (with_register i l) in
    record { code = own.Constant i 0 ∷ first.code; lists = first.lists; to = first.to }

abbrev pub declared_written : Program → Scalar → List Declarator → LocalScope → ℕ → Lists → Written
declared_written p t [] scope from l = nothing_written from l
declared_written p t (d ∷ ds) scope from l =
    let one = declarator_written p t d scope from l in
    and_then one (declared_written p t ds (with_local scope d.name.text t) one.to one.lists)

abbrev pub start_written : Program → Start → LocalScope → ℕ → Lists → Written
start_written p Nothing scope from l = nothing_written from l
start_written p (Declares d) scope from l = declared_written p d.ty d.declarators scope from l
start_written p (Does s) scope from l = simple_written p scope s from (length scope) l
