-- What follows only makes the lists longer, and keeps what is preloaded: of expressions.
use Rattle.std.proofs.Common.{ℕ, ◌+◌, List, [], ◌∷◌, ◌++◌, length, Option, Some, None, Bool, true, false, if◌then◌else◌, ◌==◌, refl, arith}
use Rattle.std.specs.Option.{IfSome}
use Rattle.lex.specs.declared.token.Scalar.{Scalar}
use Rattle.syntax.specs.declared.tree.UnaryOp.TheVariants.{Negate, Keep, Not, Complement}
use Rattle.syntax.specs.Tree.{Expr, Exprs, Variable, Constant, Element, Call, Parenthesized, Cast, Unary, Binary, Logical, Conditional, InTransaction, Program}
use Rattle.syntax.specs.Numbers.{common, operand_type}
use Rattle.syntax.specs.Names.{newest, global_of, GlobalCells}
use Rattle.bytecode.specs.declared.instr.Instr.{Instr}
use Rattle.bytecode.specs.declared.instr.Instr.TheVariants as own
use Rattle.lower_spec.specs.Expressions.{LocalScope, types_left, argument_order}
use Rattle.selection.specs.declared.locations.ValueRegister.{ValueRegister}
use Rattle.selection.specs.Lists.{Lists, with_register, with_registers}
use Rattle.selection.specs.Names.{Callee, callee_of}
use Rattle.selection.specs.Conditions.{Condition, zero_test, zero_tested}
use Rattle.selection.specs.Expressions.{Emitted, AllEmitted, above, then_one, logical_negation, value_into, converting, preloaded_constant, preloaded_or, converted_by, in_type, in_first_type, variable, element, call_code, condition_of, where_same, taken_types, emitted_type, emit, as_type, operand, own_condition, condition, emit_all}
use Rattle.selection.proofs.stands.Standing.{Grows, grows_same, grows_further, grows_used, front_same, front_more, max_left}

pub used_longer : (r : ℕ) (l : Lists) → Grows l (with_register r l)
used_longer r l = grows_used l l r (grows_same l)

pub ready_longer : (o : Option ValueRegister) (l : Lists) (e : Emitted) → Grows l e.lists → Grows l (preloaded_or o l e).lists
ready_longer None l e h = h
ready_longer (Some location) l e h = grows_same l

variable_longer : (x : Option (ℕ × Scalar)) (g : Option GlobalCells) (from into : ℕ) (l : Lists) → Grows l (variable x g from into l).lists
variable_longer (Some x) g from into l = used_longer x.0 l
variable_longer None (Some g) from into l = used_longer into l
variable_longer None None from into l = used_longer into l

element_longer : (g : Option GlobalCells) (i : Emitted) (from into : ℕ) (l : Lists) → Grows l i.lists → Grows l (element g i from into l).lists
element_longer (Some g) i from into l h = grows_used l i.lists into h
element_longer None i from into l h = used_longer into l

handed_longer : (handed : List ℕ) (into : ℕ) (l m : Lists) → Grows l m → Grows l (with_register into (with_registers (length handed) (record m { arguments = m.arguments ++ handed })))
handed_longer handed into l m h =
    let more : Lists = record m { arguments = m.arguments ++ handed } in
    let lists : Lists = with_registers (length handed) more in
    let a : Grows m more = record { arguments = front_more m.arguments handed; texts = front_same m.texts; registers = omega arith; layout = refl } in
    let b : Grows more lists = record { arguments = front_same more.arguments; texts = front_same m.texts; registers = max_left m.registers (length handed); layout = refl } in
    grows_used l lists into (grows_further l m lists h (grows_further m more lists a b))

called_longer : (f : Option Callee) (args : AllEmitted) (from into : ℕ) (l : Lists) → Grows l args.lists → Grows l (call_code f args from into l).lists
called_longer None args from into l h = used_longer into l
called_longer (Some f) args from into l h = handed_longer (argument_order f.parameters args.registers) into l args.lists h

into_longer : (r : ℕ) (e : Emitted) (l : Lists) → Grows l e.lists → Grows l (value_into r e).lists
into_longer r e l h = by (e.location.register == r)
  where
    by : (b : Bool) → Grows l (if b then e else then_one e (own.Move r e.location.register) r e.location.ty).lists
    by true = h
    by false = grows_used l e.lists r h

compared_longer : (e : Emitted) (into free : ℕ) (l : Lists) → Grows l e.lists → Grows l (logical_negation e into free).lists
compared_longer e into free l h =
    let zero_in = above free e.location.register in grows_used l (with_register zero_in e.lists) into (grows_used l e.lists zero_in h)

pub converted_longer : (o : Option (ℕ → ℕ → Instr)) (u : Scalar) (e : Emitted) (into : ℕ) (l : Lists) → Grows l e.lists → Grows l (converted_by o u e into).lists
converted_longer None u e into l h = h
converted_longer (Some i) u e into l h = grows_used l e.lists into h

pub in_type_longer : (s u : Scalar) (e' : Expr) (e : Emitted) (from into : ℕ) (l : Lists) → Grows l e.lists → Grows l (in_type s u e' e from into l).lists
in_type_longer s u (Constant n t at) e from into l h = used_longer into l
in_type_longer s u e' e from into l h = converted_longer (converting s u) u e into l h

in_first_longer : (s : Scalar) (ts : List Scalar) (e' : Expr) (e : Emitted) (from into : ℕ) (l : Lists) → Grows l e.lists → Grows l (in_first_type s ts e' e from into l).lists
in_first_longer s [] e' e from into l h = h
in_first_longer s (u ∷ us) e' e from into l h = in_type_longer s u e' e from into l h

abbrev IsLonger : Lists → Condition → Type 0
IsLonger l c = Grows l c.lists

tested_longer : (l : Lists) (o : Option Condition) (e : Emitted) → IfSome o (IsLonger l) → Grows l e.lists → Grows l (condition_of o e).lists
tested_longer l None e h k = k
tested_longer l (Some c) e h k = h

zero_longer : (o : Option Bool) (l : Lists) (other : Condition) → Grows l other.lists → IfSome (zero_tested o other) (IsLonger l)
zero_longer None l other h = tt
zero_longer (Some true) l other h = h
zero_longer (Some false) l other h = h

same_longer : (i : Option (ℕ → ℕ → Instr)) (l : Lists) (o : Option Condition) → IfSome o (IsLonger l) → IfSome (where_same i o) (IsLonger l)
same_longer None l o h = h
same_longer (Some i) l o h = tt

module _ (p : Program) (scope : LocalScope) where
  by_parts : (e : Expr) (from free : ℕ) (l : Lists) → IfSome (own_condition p scope e from free l) (IsLonger l) → Grows l (emit p scope e from free free l).lists → Grows l (condition p scope e from free l).lists
  by_parts e from free l h k = tested_longer l (own_condition p scope e from free l) (emit p scope e from free free l) h k

  mutual
    pub emitted_longer : (e : Expr) (from into free : ℕ) (l : Lists) → Grows l (emit p scope e from into free l).lists
    emitted_longer (Variable x) from into free l = variable_longer (newest scope x.text) (global_of p x.text) from into l
    emitted_longer (Constant n t at) from into free l = used_longer into l
    emitted_longer (Element x i at) from into free l = element_longer (global_of p x.text) (emit p scope i from free free l) from into l (emitted_longer i from free free l)
    emitted_longer (Call f es at) from into free l = called_longer (callee_of p f.text) (emit_all p scope (taken_types (callee_of p f.text)) es from free l) from into l (all_longer (taken_types (callee_of p f.text)) es from free l)
    emitted_longer (Parenthesized e at) from into free l = emitted_longer e from into free l
    emitted_longer (Cast t e at) from into free l = in_type_longer (emitted_type p scope e) t e (emit p scope e from into free l) from into l (emitted_longer e from into free l)
    emitted_longer (Unary Negate e at) from into free l = grows_used l (emit p scope e from free free l).lists into (emitted_longer e from free free l)
    emitted_longer (Unary Keep e at) from into free l = emitted_longer e from into free l
    emitted_longer (Unary Not e at) from into free l = compared_longer (emit p scope e from free free l) into free l (emitted_longer e from free free l)
    emitted_longer (Unary Complement e at) from into free l = grows_used l (emit p scope e from free free l).lists into (emitted_longer e from free free l)
    emitted_longer (Binary op a b at) from into free l =
        let t = operand_type op (emitted_type p scope a) (emitted_type p scope b) in
        let u = operand_type op (emitted_type p scope b) (emitted_type p scope a) in
        let left = as_type p scope t a from free free l in
        let later = above free left.location.register in
        let made = emit p scope b left.location.to later later left.lists in
        let computed = in_type (emitted_type p scope b) u b made left.location.to later left.lists in
        let other = operand p scope u b left.location.to later left.lists in
        let x = in_type_longer (emitted_type p scope a) t a (emit p scope a from free free l) from free l (emitted_longer a from free free l) in
        let y = ready_longer (preloaded_constant left.lists.layout u b left.location.to) left.lists computed (in_type_longer (emitted_type p scope b) u b made left.location.to later left.lists (emitted_longer b left.location.to later later left.lists)) in
        grows_used l other.lists into (grows_further l left.lists other.lists x y)
    emitted_longer (Logical op a b at) from into free l =
        let first = condition p scope a from free l in
        let second = condition p scope b (first.to + 1) free first.lists in
        let x = by_parts a from free l (own_longer a from free l) (emitted_longer a from free free l) in
        let y = by_parts b (first.to + 1) free first.lists (own_longer b (first.to + 1) free first.lists) (emitted_longer b (first.to + 1) free free first.lists) in
        grows_used l second.lists into (grows_further l first.lists second.lists x y)
    emitted_longer (Conditional c a b at) from into free l =
        let test = condition p scope c from free l in
        let t = common (emitted_type p scope a) (emitted_type p scope b) in
        let one = as_type p scope t a (test.to + 1) into free test.lists in
        let first = value_into into one in
        let second = as_type p scope t b (first.location.to + 1) into free first.lists in
        let x = in_type_longer (emitted_type p scope a) t a (emit p scope a (test.to + 1) into free test.lists) (test.to + 1) into test.lists (emitted_longer a (test.to + 1) into free test.lists) in
        let y = in_type_longer (emitted_type p scope b) t b (emit p scope b (first.location.to + 1) into free first.lists) (first.location.to + 1) into first.lists (emitted_longer b (first.location.to + 1) into free first.lists) in
        let u = by_parts c from free l (own_longer c from free l) (emitted_longer c from free free l) in
        let v = into_longer into one test.lists x in
        let w = into_longer into second first.lists y in
        grows_further l test.lists (value_into into second).lists u (grows_further test.lists first.lists (value_into into second).lists v w)
    emitted_longer (InTransaction mode keyword e at) from into free l = emitted_longer e (from + 1) into free l

    own_longer : (e : Expr) (from free : ℕ) (l : Lists) → IfSome (own_condition p scope e from free l) (IsLonger l)
    own_longer (Parenthesized e at) from free l = own_longer e from free l
    own_longer (Cast t e at) from free l = same_longer (converting (emitted_type p scope e) t) l (own_condition p scope e from free l) (own_longer e from free l)
    own_longer (Unary Keep e at) from free l = own_longer e from free l
    own_longer (Unary Not e at) from free l = by_parts e from free l (own_longer e from free l) (emitted_longer e from free free l)
    own_longer (Binary op a b at) from free l = zero_longer (zero_test op b) l (condition p scope a from free l) (by_parts a from free l (own_longer a from free l) (emitted_longer a from free free l))
    own_longer (Logical op a b at) from free l =
        let first = condition p scope a from free l in
        let second = condition p scope b (first.to + 1) free first.lists in
        let x = by_parts a from free l (own_longer a from free l) (emitted_longer a from free free l) in
        let y = by_parts b (first.to + 1) free first.lists (own_longer b (first.to + 1) free first.lists) (emitted_longer b (first.to + 1) free free first.lists) in
        grows_further l first.lists second.lists x y
    own_longer e from free l = tt

    pub all_longer : (ts : List Scalar) (es : Exprs) (from free : ℕ) (l : Lists) → Grows l (emit_all p scope ts es from free l).lists
    all_longer ts Exprs.[] from free l = grows_same l
    all_longer ts (Exprs.◌∷◌ e es) from free l =
        let made = emit p scope e from free free l in
        let first = in_first_type (emitted_type p scope e) ts e made from free l in
        let rest = emit_all p scope (types_left ts) es first.location.to (above free first.location.register) first.lists in
        grows_further l first.lists rest.lists (in_first_longer (emitted_type p scope e) ts e made from free l (emitted_longer e from free free l)) (all_longer (types_left ts) es first.location.to (above free first.location.register) first.lists)

  pub condition_longer : (e : Expr) (from free : ℕ) (l : Lists) → Grows l (condition p scope e from free l).lists
  condition_longer e from free l = by_parts e from free l (own_longer e from free l) (emitted_longer e from free free l)

  pub due_longer : (u : Scalar) (e : Expr) (from into free : ℕ) (l : Lists) → Grows l (as_type p scope u e from into free l).lists
  due_longer u e from into free l = in_type_longer (emitted_type p scope e) u e (emit p scope e from into free l) from into l (emitted_longer e from into free l)

  pub operand_longer : (u : Scalar) (e : Expr) (from free : ℕ) (l : Lists) → Grows l (operand p scope u e from free l).lists
  operand_longer u e from free l = ready_longer (preloaded_constant l.layout u e from) l (as_type p scope u e from free free l) (due_longer u e from free free l)
