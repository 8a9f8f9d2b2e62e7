-- What follows needs no fewer registers.
use Rattle.std.proofs.Common.{ℕ, suc, ◌+◌, ◌≤◌, List, [], ◌∷◌, length, max, Option, Some, None, Bool, true, false, if◌then◌else◌, ◌==◌, arith}
use Rattle.std.specs.Option.{IfSome}
use Rattle.lex.specs.declared.token.Scalar.{Scalar}
use Rattle.syntax.specs.declared.tree.UnaryOp.TheVariants.{Negate, Keep, Not, Complement}
use Rattle.syntax.specs.Tree.{Expr, Exprs, Variable, Constant, Element, Call, Parenthesized, Cast, Unary, Binary, Logical, Conditional, InTransaction, Program}
use Rattle.syntax.specs.Numbers.{common, operand_type}
use Rattle.syntax.specs.Names.{newest, global_of, GlobalCells}
use Rattle.bytecode.specs.declared.instr.Instr.{Instr}
use Rattle.bytecode.specs.declared.instr.Instr.TheVariants as own
use Rattle.lower_spec.specs.Expressions.{LocalScope, types_left, argument_order}
use Rattle.selection.specs.declared.locations.ValueRegister.{ValueRegister}
use Rattle.selection.specs.Lists.{Lists, with_register, with_registers}
use Rattle.selection.specs.Names.{Callee, callee_of}
use Rattle.selection.specs.Conditions.{Condition, zero_test, zero_tested}
use Rattle.selection.specs.Expressions.{Emitted, AllEmitted, above, then_one, logical_negation, value_into, converting, preloaded_constant, preloaded_or, converted_by, in_type, in_first_type, variable, element, call_code, condition_of, where_same, taken_types, emitted_type, emit, as_type, operand, own_condition, condition, emit_all}

max_left : (a b : ℕ) → a ≤ max a b
max_left a b = grind arith

pub used_more : (r : ℕ) (l : Lists) → l.registers ≤ (with_register r l).registers
used_more r l = max_left l.registers (suc r)

pub holding_more : (n : ℕ) (l : Lists) → l.registers ≤ (with_registers n l).registers
holding_more n l = max_left l.registers n

variable_more : (x : Option (ℕ × Scalar)) (g : Option GlobalCells) (from into : ℕ) (l : Lists) → l.registers ≤ (variable x g from into l).lists.registers
variable_more (Some x) g from into l = used_more x.0 l
variable_more None (Some g) from into l = used_more into l
variable_more None None from into l = used_more into l

pub element_more : (g : Option GlobalCells) (i : Emitted) (from into : ℕ) (l : Lists) → l.registers ≤ i.lists.registers → l.registers ≤ (element g i from into l).lists.registers
element_more (Some g) i from into l h = let a = used_more into i.lists in omega (arith, h, a)
element_more None i from into l h = used_more into l

called_more : (f : Option Callee) (args : AllEmitted) (from into : ℕ) (l : Lists) → l.registers ≤ args.lists.registers → l.registers ≤ (call_code f args from into l).lists.registers
called_more None args from into l h = used_more into l
called_more (Some f) args from into l h =
    let n = length (argument_order f.parameters args.registers) in
    let a = max_left args.lists.registers n in
    let b = max_left (max args.lists.registers n) (suc into) in
    omega (arith, h, a, b)

pub into_more : (r : ℕ) (e : Emitted) → e.lists.registers ≤ (value_into r e).lists.registers
into_more r e = by (e.location.register == r)
  where
    by : (b : Bool) → e.lists.registers ≤ (if b then e else then_one e (own.Move r e.location.register) r e.location.ty).lists.registers
    by true = omega arith
    by false = used_more r e.lists

pub compared_more : (e : Emitted) (into free : ℕ) → e.lists.registers ≤ (logical_negation e into free).lists.registers
compared_more e into free =
    let a = used_more (above free e.location.register) e.lists in
    let b = used_more into (with_register (above free e.location.register) e.lists) in
    omega (arith, a, b)

pub ready_more : (o : Option ValueRegister) (l : Lists) (e : Emitted) → l.registers ≤ e.lists.registers → l.registers ≤ (preloaded_or o l e).lists.registers
ready_more None l e h = h
ready_more (Some location) l e h = omega arith

pub converted_more : (o : Option (ℕ → ℕ → Instr)) (u : Scalar) (e : Emitted) (into : ℕ) → e.lists.registers ≤ (converted_by o u e into).lists.registers
converted_more None u e into = omega arith
converted_more (Some i) u e into = used_more into e.lists

pub in_type_more : (s u : Scalar) (e' : Expr) (e : Emitted) (from into : ℕ) (l : Lists) → l.registers ≤ e.lists.registers → l.registers ≤ (in_type s u e' e from into l).lists.registers
in_type_more s u (Constant n t at) e from into l h = used_more into l
in_type_more s u e' e from into l h = let a = converted_more (converting s u) u e into in omega (arith, h, a)

in_first_more : (s : Scalar) (ts : List Scalar) (e' : Expr) (e : Emitted) (from into : ℕ) (l : Lists) → l.registers ≤ e.lists.registers → l.registers ≤ (in_first_type s ts e' e from into l).lists.registers
in_first_more s [] e' e from into l h = h
in_first_more s (u ∷ us) e' e from into l h = in_type_more s u e' e from into l h

abbrev HasMore : Lists → Condition → Type 0
HasMore l c = l.registers ≤ c.lists.registers

tested_more : (l : Lists) (o : Option Condition) (e : Emitted) → IfSome o (HasMore l) → l.registers ≤ e.lists.registers → l.registers ≤ (condition_of o e).lists.registers
tested_more l None e h k = k
tested_more l (Some c) e h k = h

zero_more : (o : Option Bool) (l : Lists) (other : Condition) → l.registers ≤ other.lists.registers → IfSome (zero_tested o other) (HasMore l)
zero_more None l other h = tt
zero_more (Some true) l other h = h
zero_more (Some false) l other h = h

same_more : (i : Option (ℕ → ℕ → Instr)) (l : Lists) (o : Option Condition) → IfSome o (HasMore l) → IfSome (where_same i o) (HasMore l)
same_more None l o h = h
same_more (Some i) l o h = tt

module _ (p : Program) (scope : LocalScope) where
  by_parts : (e : Expr) (from free : ℕ) (l : Lists) → IfSome (own_condition p scope e from free l) (HasMore l) → l.registers ≤ (emit p scope e from free free l).lists.registers → l.registers ≤ (condition p scope e from free l).lists.registers
  by_parts e from free l h k = tested_more l (own_condition p scope e from free l) (emit p scope e from free free l) h k

  mutual
    pub emitted_more : (e : Expr) (from into free : ℕ) (l : Lists) → l.registers ≤ (emit p scope e from into free l).lists.registers
    emitted_more (Variable x) from into free l = variable_more (newest scope x.text) (global_of p x.text) from into l
    emitted_more (Constant n t at) from into free l = used_more into l
    emitted_more (Element x i at) from into free l = element_more (global_of p x.text) (emit p scope i from free free l) from into l (emitted_more i from free free l)
    emitted_more (Call f es at) from into free l = called_more (callee_of p f.text) (emit_all p scope (taken_types (callee_of p f.text)) es from free l) from into l (all_more (taken_types (callee_of p f.text)) es from free l)
    emitted_more (Parenthesized e at) from into free l = emitted_more e from into free l
    emitted_more (Cast t e at) from into free l = in_type_more (emitted_type p scope e) t e (emit p scope e from into free l) from into l (emitted_more e from into free l)
    emitted_more (Unary Negate e at) from into free l =
        let a = emitted_more e from free free l in let b = used_more into (emit p scope e from free free l).lists in omega (arith, a, b)
    emitted_more (Unary Keep e at) from into free l = emitted_more e from into free l
    emitted_more (Unary Not e at) from into free l =
        let made = emit p scope e from free free l in
        let a = emitted_more e from free free l in
        let b = used_more (above free made.location.register) made.lists in
        let c = used_more into (with_register (above free made.location.register) made.lists) in
        omega (arith, a, b, c)
    emitted_more (Unary Complement e at) from into free l =
        let a = emitted_more e from free free l in let b = used_more into (emit p scope e from free free l).lists in omega (arith, a, b)
    emitted_more (Binary op a b at) from into free l =
        let t = operand_type op (emitted_type p scope a) (emitted_type p scope b) in
        let u = operand_type op (emitted_type p scope b) (emitted_type p scope a) in
        let left = as_type p scope t a from free free l in
        let later = above free left.location.register in
        let x = in_type_more (emitted_type p scope a) t a (emit p scope a from free free l) from free l (emitted_more a from free free l) in
        let found = preloaded_constant left.lists.layout u b left.location.to in
        let made = emit p scope b left.location.to later later left.lists in
        let computed = in_type (emitted_type p scope b) u b made left.location.to later left.lists in
        let y = ready_more found left.lists computed (in_type_more (emitted_type p scope b) u b made left.location.to later left.lists (emitted_more b left.location.to later later left.lists)) in
        let z = used_more into (preloaded_or found left.lists computed).lists in
        omega (arith, x, y, z)
    emitted_more (Logical op a b at) from into free l =
        let first = condition p scope a from free l in
        let second = condition p scope b (first.to + 1) free first.lists in
        let x = by_parts a from free l (own_more a from free l) (emitted_more a from free free l) in
        let y = by_parts b (first.to + 1) free first.lists (own_more b (first.to + 1) free first.lists) (emitted_more b (first.to + 1) free free first.lists) in
        let z = used_more into second.lists in
        omega (arith, x, y, z)
    emitted_more (Conditional c a b at) from into free l =
        let test = condition p scope c from free l in
        let t = common (emitted_type p scope a) (emitted_type p scope b) in
        let made = emit p scope a (test.to + 1) into free test.lists in
        let first = as_type p scope t a (test.to + 1) into free test.lists in
        let next = (value_into into first).location.to + 1 in
        let other = emit p scope b next into free (value_into into first).lists in
        let second = as_type p scope t b next into free (value_into into first).lists in
        let u = by_parts c from free l (own_more c from free l) (emitted_more c from free free l) in
        let v = in_type_more (emitted_type p scope a) t a made (test.to + 1) into test.lists (emitted_more a (test.to + 1) into free test.lists) in
        let w = into_more into first in
        let x = in_type_more (emitted_type p scope b) t b other next into (value_into into first).lists (emitted_more b next into free (value_into into first).lists) in
        let y = into_more into second in
        omega (arith, u, v, w, x, y)
    emitted_more (InTransaction mode keyword e at) from into free l = emitted_more e (from + 1) into free l

    own_more : (e : Expr) (from free : ℕ) (l : Lists) → IfSome (own_condition p scope e from free l) (HasMore l)
    own_more (Parenthesized e at) from free l = own_more e from free l
    own_more (Cast t e at) from free l = same_more (converting (emitted_type p scope e) t) l (own_condition p scope e from free l) (own_more e from free l)
    own_more (Unary Keep e at) from free l = own_more e from free l
    own_more (Unary Not e at) from free l = by_parts e from free l (own_more e from free l) (emitted_more e from free free l)
    own_more (Binary op a b at) from free l = zero_more (zero_test op b) l (condition p scope a from free l) (by_parts a from free l (own_more a from free l) (emitted_more a from free free l))
    own_more (Logical op a b at) from free l =
        let first = condition p scope a from free l in
        let x = by_parts a from free l (own_more a from free l) (emitted_more a from free free l) in
        let y = by_parts b (first.to + 1) free first.lists (own_more b (first.to + 1) free first.lists) (emitted_more b (first.to + 1) free free first.lists) in
        omega (arith, x, y)
    own_more e from free l = tt

    pub all_more : (ts : List Scalar) (es : Exprs) (from free : ℕ) (l : Lists) → l.registers ≤ (emit_all p scope ts es from free l).lists.registers
    all_more ts Exprs.[] from free l = omega arith
    all_more ts (Exprs.◌∷◌ e es) from free l =
        let made = emit p scope e from free free l in
        let first = in_first_type (emitted_type p scope e) ts e made from free l in
        let a = in_first_more (emitted_type p scope e) ts e made from free l (emitted_more e from free free l) in
        let b = all_more (types_left ts) es first.location.to (above free first.location.register) first.lists in
        omega (arith, a, b)

  pub due_more : (u : Scalar) (e : Expr) (from into free : ℕ) (l : Lists) → l.registers ≤ (as_type p scope u e from into free l).lists.registers
  due_more u e from into free l = in_type_more (emitted_type p scope e) u e (emit p scope e from into free l) from into l (emitted_more e from into free l)

  pub operand_more : (u : Scalar) (e : Expr) (from free : ℕ) (l : Lists) → l.registers ≤ (operand p scope u e from free l).lists.registers
  operand_more u e from free l = ready_more (preloaded_constant l.layout u e from) l (as_type p scope u e from free free l) (due_more u e from free free l)

  pub condition_more : (e : Expr) (from free : ℕ) (l : Lists) → l.registers ≤ (condition p scope e from free l).lists.registers
  condition_more e from free l = by_parts e from free l (own_more e from free l) (emitted_more e from free free l)
