-- The instructions that are picked for an expression. Each part gets its first place and returns the place after it,
-- so that jumps over it need no further pass. A computed result comes into the register `into`, and only
-- registers from `free` on may be written.
use Rattle.std.specs.Prelude.{ℕ, suc, pos, ◌+◌, List, [], ◌∷◌, ◌++◌, length, map, Option, Some, None, option_map, max}
use Rattle.std.specs.Prelude.{if◌then◌else◌, ◌==◌}
use Rattle.lex.specs.declared.token.Scalar.{Scalar}
use Rattle.lex.specs.declared.token.Scalar.TheVariants.{Int, Unsigned, LongLong}
use Rattle.syntax.specs.declared.tree.UnaryOp.TheVariants.{Negate, Keep, Not, Complement}
use Rattle.syntax.specs.declared.tree.BinaryOp.{BinaryOp}
use Rattle.syntax.specs.declared.tree.BinaryOp.TheVariants.{Equal}
use Rattle.syntax.specs.declared.tree.LogicalOp.{LogicalOp}
use Rattle.syntax.specs.Tree.{Parameter, Expr, Exprs, Variable, Constant, Element, Call, Parenthesized, Cast, Unary}
use Rattle.syntax.specs.Tree.{Binary, Logical, Conditional, InTransaction, Program}
use Rattle.syntax.specs.Numbers.{word_of, common, operand_type, result_type}
use Rattle.syntax.specs.Names.{newest, global_of, cells, GlobalCells}
use Rattle.bytecode.specs.declared.instr.Instr.{Instr}
use Rattle.bytecode.specs.declared.instr.Instr.TheVariants as own
use Rattle.bytecode.specs.declared.limits.TheConstants.{MOST_REGISTERS}
use Rattle.lower_spec.specs.Expressions.{LocalScope, Layout, constant_in, types_left, argument_order}
use Rattle.selection.specs.declared.locations.ValueRegister.{ValueRegister}
use Rattle.selection.specs.Lists.{Lists, with_register, with_registers}
use Rattle.selection.specs.Names.{Callee, callee_of}
use Rattle.selection.specs.Conditions.{Condition, test_in, going_on, by_value, opposite, logical_condition, zero_test}
use Rattle.selection.specs.Conditions.{zero_tested}

abbrev pub negating : Scalar → ℕ → ℕ → Instr
negating Int d a = own.NegateSigned d a
negating Unsigned d a = own.NegateUnsigned d a
negating LongLong d a = own.NegateLong d a

abbrev pub complementing : Scalar → ℕ → ℕ → Instr
complementing LongLong d a = own.ComplementLong d a
complementing t d a = own.Complement d a

-- the instruction of a conversion, if there is one
abbrev pub converting : (s u : Scalar) → Option (ℕ → ℕ → Instr)
converting Int LongLong = Some own.Extend
converting LongLong Int = Some own.Low
converting LongLong Unsigned = Some own.Low
converting s u = None

-- instructions, the lists after them, and the location of the value after them
pub record Emitted : Type 0 where
  pub code : List Instr
  pub lists : Lists
  pub location : ValueRegister

-- instructions, the lists after them, the registers of several values, and the place after them
pub record AllEmitted : Type 0 where
  pub code : List Instr
  pub lists : Lists
  pub registers : List ℕ
  pub to : ℕ

-- the first free register above a value's
abbrev pub above : ℕ → ℕ → ℕ
above free r = max free (suc r)

-- one instruction that writes a register
abbrev pub one : Instr → (from r : ℕ) → Scalar → Lists → Emitted
one i from r t l = record {
  code = i ∷ [];
  lists = with_register r l;
  location = record { register = r; ty = t; to = from + 1 };
}

abbrev pub then_one : Emitted → Instr → ℕ → Scalar → Emitted
then_one e i r t = record {
  code = e.code ++ i ∷ [];
  lists = with_register r e.lists;
  location = record { register = r; ty = t; to = e.location.to + 1 };
}

abbrev pub constant : ℕ → Scalar → (from into : ℕ) → Lists → Emitted
constant n t from into l = one (own.Constant into n) from into t l

-- the register in which a word is preloaded, if these words are from this register on, as far as registers have
-- numbers
abbrev pub preloaded_from : ℕ → List ℕ → ℕ → Option ℕ
preloaded_from r [] w = None
preloaded_from r (x ∷ xs) w = if x == w then Some r else if r == MOST_REGISTERS then None
    else preloaded_from (suc r) xs w

abbrev pub preloaded : Layout → (w : ℕ) → Scalar → (from : ℕ) → Option ValueRegister
preloaded layout w t from =
    option_map (λ r. record { register = r; ty = t; to = from }) (preloaded_from layout.writable layout.constants w)

-- a constant that is preloaded in the type that is due, as the right side of an operator
abbrev pub preloaded_constant : Layout → Scalar → Expr → ℕ → Option ValueRegister
preloaded_constant layout u (Constant n t at) from = preloaded layout (constant_in u t n) u from
preloaded_constant layout u e from = None

-- a value that is preloaded, or else one that is computed
abbrev pub preloaded_or : Option ValueRegister → Lists → Emitted → Emitted
preloaded_or None l e = e
preloaded_or (Some location) l e = record { code = []; lists = l; location = location }

-- a local's own register
abbrev pub in_local : ℕ → Scalar → ℕ → Lists → Emitted
in_local i t from l = record {
  code = [];
  lists = with_register i l;
  location = record { register = i; ty = t; to = from };
}

abbrev pub variable : Option (ℕ × Scalar) → Option GlobalCells → (from into : ℕ) → Lists → Emitted
variable (Some x) g from into l = in_local x.0 x.1 from l
variable None (Some g) from into l = one (own.Read into g.cell) from into g.global.ty l
variable None None from into l = constant 0 Int from into l

abbrev pub element : Option GlobalCells → Emitted → (from into : ℕ) → Lists → Emitted
element (Some g) i from into l =
    then_one i (own.ReadAt into i.location.register g.cell (cells g.global)) into g.global.ty
element None i from into l = constant 0 Int from into l

-- a value by a conversion: it stays where it is, or one instruction computes it
abbrev pub converted_by : Option (ℕ → ℕ → Instr) → Scalar → Emitted → (into : ℕ) → Emitted
converted_by None u e into =
    record e { location = record { register = e.location.register; ty = u; to = e.location.to } }
converted_by (Some i) u e into = then_one e (i into e.location.register) into u

-- a value of type s in type u: if the expression is a constant, it is set after conversion
abbrev pub in_type : (s u : Scalar) → Expr → Emitted → (from into : ℕ) → Lists → Emitted
in_type s u (Constant n t at) e from into l = constant (constant_in u t n) u from into l
in_type s u e' e from into l = converted_by (converting s u) u e into

-- a value of type s in the first of these types, if there is one
abbrev pub in_first_type : Scalar → List Scalar → Expr → Emitted → (from into : ℕ) → Lists → Emitted
in_first_type s [] e' e from into l = e
in_first_type s (u ∷ us) e' e from into l = in_type s u e' e from into l

-- a value that is computed in a transaction of its own
abbrev pub in_own_transaction : Emitted → Emitted
in_own_transaction e = record {
  code = own.Begin (e.location.to + 1) ∷ e.code ++ own.Commit ∷ [];
  lists = e.lists;
  location = record { register = e.location.register; ty = e.location.ty; to = e.location.to + 1 };
}

abbrev pub negation : Emitted → ℕ → Emitted
negation e into = then_one e (negating e.location.ty into e.location.register) into e.location.ty

abbrev pub complement : Emitted → ℕ → Emitted
complement e into = then_one e (complementing e.location.ty into e.location.register) into e.location.ty

-- `!`: whether it is 0
abbrev pub logical_negation : Emitted → (into free : ℕ) → Emitted
logical_negation e into free =
    let zero_in = above free e.location.register in
    record {
      code = e.code ++ own.Constant zero_in 0 ∷ own.Compute Equal Unsigned into e.location.register zero_in ∷ [];
      lists = with_register into (with_register zero_in e.lists);
      location = record { register = into; ty = Int; to = e.location.to + 2 };
    }

-- an operator on two values, which computes in this type
abbrev pub both : BinaryOp → Scalar → Emitted → Emitted → ℕ → Emitted
both op t a b into = record {
  code = a.code ++ b.code ++ own.Compute op t into a.location.register b.location.register ∷ [];
  lists = with_register into b.lists;
  location = record { register = into; ty = result_type op t; to = b.location.to + 1 };
}

-- the int 1 if a condition holds, and 0 if it does not
abbrev pub condition_value : Condition → ℕ → Emitted
condition_value c into =
    let last = c.to in
    record {
      code =
          going_on c.code (test_in c) (last + 3)
          ++ own.Constant into 1 ∷ own.Jump (last + 4) ∷ own.Constant into 0 ∷ [];
      lists = with_register into c.lists;
      location = record { register = into; ty = Int; to = last + 4 };
    }

-- a value in this very register
abbrev pub value_into : ℕ → Emitted → Emitted
value_into r e = if e.location.register == r then e else then_one e (own.Move r e.location.register) r e.location.ty

-- a condition, and one of two values of this type that share one register
abbrev pub conditional_value : Scalar → Condition → Emitted → Emitted → ℕ → Emitted
conditional_value t c a b into = record {
  code = going_on c.code (test_in c) (a.location.to + 1) ++ a.code ++ own.Jump b.location.to ∷ b.code;
  lists = b.lists;
  location = record { register = into; ty = t; to = b.location.to };
}

-- a condition by its operator, or else by its value
abbrev pub condition_of : Option Condition → Emitted → Condition
condition_of None e = by_value e.code e.lists e.location
condition_of (Some c) e = c

-- a condition under a cast, which is tested directly if no instruction converts it
abbrev pub where_same : Option (ℕ → ℕ → Instr) → Option Condition → Option Condition
where_same None c = c
where_same (Some i) c = None

-- two conditions, one after the other
abbrev pub joining : LogicalOp → (first second : ℕ → Lists → Condition) → ℕ → Lists → Condition
joining op first second from l = let a = first from l in logical_condition op a (second (a.to + 1) a.lists)

abbrev pub none_emitted : ℕ → Lists → AllEmitted
none_emitted from l = record { code = []; lists = l; registers = []; to = from }

abbrev pub with_argument : Emitted → AllEmitted → AllEmitted
with_argument e es = record {
  code = e.code ++ es.code;
  lists = es.lists;
  registers = e.location.register ∷ es.registers;
  to = es.to;
}

-- a call: its arguments' registers go into the code's list of arguments
abbrev pub call_code : Option Callee → AllEmitted → (from into : ℕ) → Lists → Emitted
call_code None args from into l = constant 0 Int from into l
call_code (Some f) args from into l =
    let made = args.lists.arguments in
    let in_order = argument_order f.parameters args.registers in
    record {
      code = args.code ++ own.Call into (length in_order) f.number (length made) ∷ [];
      lists =
          with_register into
          (with_registers (length in_order) (record args.lists { arguments = made ++ in_order }));
      location = record { register = into; ty = f.ty; to = args.to + 1 };
    }

-- the types of the code for variables, elements and calls
abbrev pub variable_type : Option (ℕ × Scalar) → Option GlobalCells → Scalar
variable_type (Some x) g = x.1
variable_type None (Some g) = g.global.ty
variable_type None None = Int

abbrev pub element_type : Option GlobalCells → Scalar
element_type (Some g) = g.global.ty
element_type None = Int

abbrev pub called_type : Option Callee → Scalar
called_type (Some f) = f.ty
called_type None = Int

-- the types of a function's parameters
abbrev pub types_of : List Parameter → List Scalar
types_of qs = map (λ q. q.ty) qs

abbrev pub taken_types : Option Callee → List Scalar
taken_types (Some f) = types_of f.parameters
taken_types None = []

module _ (p : Program) (scope : LocalScope) where
  -- the type of the code for an expression
  abbrev pub emitted_type : Expr → Scalar
  emitted_type (Variable x) = variable_type (newest scope x.text) (global_of p x.text)
  emitted_type (Constant n t at) = t
  emitted_type (Element x i at) = element_type (global_of p x.text)
  emitted_type (Call f es at) = called_type (callee_of p f.text)
  emitted_type (Parenthesized e at) = emitted_type e
  emitted_type (Cast t e at) = t
  emitted_type (Unary Not e at) = Int
  emitted_type (Unary op e at) = emitted_type e
  emitted_type (Binary op a b at) = result_type op (operand_type op (emitted_type a) (emitted_type b))
  emitted_type (Logical op a b at) = Int
  emitted_type (Conditional c a b at) = common (emitted_type a) (emitted_type b)
  emitted_type (InTransaction mode keyword e at) = emitted_type e

  abbrev mutual
    pub emit : Expr → (from into free : ℕ) → Lists → Emitted
    emit (Variable x) from into free l = variable (newest scope x.text) (global_of p x.text) from into l
    emit (Constant n t at) from into free l = constant (word_of t (pos n)) t from into l
    emit (Element x i at) from into free l =
        element (global_of p x.text) (emit i from free free l) from into l
    emit (Call f es at) from into free l =
        call_code (callee_of p f.text) (emit_all (taken_types (callee_of p f.text)) es from free l) from into l
    emit (Parenthesized e at) from into free l = emit e from into free l
    emit (Cast t e at) from into free l = in_type (emitted_type e) t e (emit e from into free l) from into l
    emit (Unary Negate e at) from into free l = negation (emit e from free free l) into
    emit (Unary Keep e at) from into free l = emit e from into free l
    emit (Unary Not e at) from into free l = logical_negation (emit e from free free l) into free
    emit (Unary Complement e at) from into free l = complement (emit e from free free l) into
    emit (Binary op a b at) from into free l =
        let t = operand_type op (emitted_type a) (emitted_type b) in
        let u = operand_type op (emitted_type b) (emitted_type a) in
        let left = in_type (emitted_type a) t a (emit a from free free l) from free l in
        let later = above free left.location.register in
        let y = emit b left.location.to later later left.lists in
        let computed = in_type (emitted_type b) u b y left.location.to later left.lists in
        both op t left (preloaded_or (preloaded_constant left.lists.layout u b left.location.to) left.lists computed)
        into
    emit (Logical op a b at) from into free l =
        condition_value
        (joining op (λ to m. condition_of (own_condition a to free m) (emit a to free free m))
        (λ to m. condition_of (own_condition b to free m) (emit b to free free m)) from l)
        into
    emit (Conditional c a b at) from into free l =
        let test = condition_of (own_condition c from free l) (emit c from free free l) in
        let t = common (emitted_type a) (emitted_type b) in
        let x = emit a (test.to + 1) into free test.lists in
        let first = value_into into (in_type (emitted_type a) t a x (test.to + 1) into test.lists) in
        let y = emit b (first.location.to + 1) into free first.lists in
        let second = value_into into (in_type (emitted_type b) t b y (first.location.to + 1) into first.lists) in
        conditional_value t test first second into
    emit (InTransaction mode keyword e at) from into free l =
        in_own_transaction (emit e (from + 1) into free l)

    -- a condition whose operator determines its test
    pub own_condition : Expr → (from free : ℕ) → Lists → Option Condition
    own_condition (Parenthesized e at) from free l = own_condition e from free l
    own_condition (Cast t e at) from free l = where_same (converting (emitted_type e) t) (own_condition e from free l)
    own_condition (Unary Keep e at) from free l = own_condition e from free l
    own_condition (Unary Not e at) from free l =
        Some (opposite (condition_of (own_condition e from free l) (emit e from free free l)))
    own_condition (Binary op a b at) from free l =
        zero_tested (zero_test op b) (condition_of (own_condition a from free l) (emit a from free free l))
    own_condition (Logical op a b at) from free l = Some
        (joining op (λ to m. condition_of (own_condition a to free m) (emit a to free free m))
        (λ to m. condition_of (own_condition b to free m) (emit b to free free m)) from l)
    own_condition e from free l = None

    -- values from left to right, which are due in these types, each in a register of its own
    pub emit_all : List Scalar → Exprs → (from free : ℕ) → Lists → AllEmitted
    emit_all ts Exprs.[] from free l = none_emitted from l
    emit_all ts (Exprs.◌∷◌ e es) from free l =
        let first = in_first_type (emitted_type e) ts e (emit e from free free l) from free l in
        with_argument first
        (emit_all (types_left ts) es first.location.to (above free first.location.register) first.lists)

  -- an expression's value in this type, in a register of its own or another one
  abbrev pub as_type : Scalar → Expr → (from into free : ℕ) → Lists → Emitted
  as_type u e from into free l = in_type (emitted_type e) u e (emit e from into free l) from into l

  -- the right side of an operator
  abbrev pub operand : Scalar → Expr → (from free : ℕ) → Lists → Emitted
  operand u e from free l = preloaded_or (preloaded_constant l.layout u e from) l (as_type u e from free free l)

  abbrev pub condition : Expr → (from free : ℕ) → Lists → Condition
  condition e from free l = condition_of (own_condition e from free l) (emit e from free free l)
