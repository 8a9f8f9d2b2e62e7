-- A body that finds constants preloaded needs no more registers than the body as it stands: of its expressions. One run
-- finds nothing preloaded, and the other one anything; their places differ.
use Rattle.std.proofs.Common.{◌≡◌, ℕ, suc, ◌+◌, ◌≤◌, List, [], ◌∷◌, length, max, Option, Some, None, Bool, true, false, if◌then◌else◌, ◌==◌, refl, sym, ap, ◌∙◌, subst, arith}
use Rattle.lex.specs.declared.token.Scalar.{Scalar}
use Rattle.syntax.specs.declared.tree.UnaryOp.TheVariants.{Negate, Keep, Not, Complement}
use Rattle.syntax.specs.Tree.{Expr, Exprs, Variable, Constant, Element, Call, Parenthesized, Cast, Unary, Binary, Logical, Conditional, InTransaction, Program}
use Rattle.syntax.specs.Numbers.{common, operand_type}
use Rattle.syntax.specs.Names.{newest, global_of, GlobalCells}
use Rattle.bytecode.specs.declared.instr.Instr.{Instr}
use Rattle.bytecode.specs.declared.instr.Instr.TheVariants as own
use Rattle.lower_spec.specs.Expressions.{LocalScope, Layout, constant_in, types_left, argument_order}
use Rattle.selection.specs.declared.locations.ValueRegister.{ValueRegister}
use Rattle.selection.specs.Lists.{Lists, with_register}
use Rattle.selection.specs.Names.{Callee, callee_of}
use Rattle.selection.specs.Conditions.{Condition, zero_test, zero_tested}
use Rattle.selection.specs.Expressions.{Emitted, AllEmitted, above, then_one, logical_negation, value_into, variable, element, call_code, condition_of, where_same, converting, preloaded, preloaded_constant, preloaded_or, converted_by, in_type, in_first_type, taken_types, emitted_type, emit, as_type, own_condition, condition, operand, emit_all}
use Rattle.selection.proofs.Growing.{due_more}

-- nothing is preloaded in the first run, and the second one needs no more registers
pub record IsLeaner (l m : Lists) : Type 0 where
  pub registers : m.registers ≤ l.registers
  pub nothing : l.layout.constants ≡ []

abbrev BothLeaner : Option Condition → Option Condition → Type 0
BothLeaner None None = Unit {0}
BothLeaner (Some c) (Some d) = IsLeaner c.lists d.lists
BothLeaner c d = ⊥

max_more : (a b n : ℕ) → a ≤ b → max a n ≤ max b n
max_more a b n h = grind arith

pub used_leaner : (r : ℕ) (l m : Lists) → IsLeaner l m → IsLeaner (with_register r l) (with_register r m)
used_leaner r l m h = record { registers = max_more m.registers l.registers (suc r) h.registers; nothing = h.nothing }

used_both : (r s : ℕ) (l m : Lists) → r ≡ s → IsLeaner l m → IsLeaner (with_register r l) (with_register s m)
used_both r s l m e h = subst (λ (x : ℕ). IsLeaner (with_register r l) (with_register x m)) e (used_leaner r l m h)

-- a right side
pub none_ready : (layout : Layout) (w : ℕ) (t : Scalar) (from : ℕ) → layout.constants ≡ [] → preloaded layout w t from ≡ None
none_ready layout w t from e = ap (λ (ws : List ℕ). preloaded (record { writable = layout.writable; constants = ws }) w t from) e

pub no_constant_ready : (layout : Layout) (u : Scalar) (e : Expr) (from : ℕ) → layout.constants ≡ [] → preloaded_constant layout u e from ≡ None
no_constant_ready layout u (Constant n t at) from h = none_ready layout (constant_in u t n) u from h
no_constant_ready layout u e from h = refl

pub right_leaner : (o o' : Option ValueRegister) (l m : Lists) (e e' : Emitted) → o ≡ None → IsLeaner l m → IsLeaner e.lists e'.lists → l.registers ≤ e.lists.registers → IsLeaner (preloaded_or o l e).lists (preloaded_or o' m e').lists
right_leaner o o' l m e e' none h k more = subst (λ (x : Option ValueRegister). IsLeaner (preloaded_or x l e).lists (preloaded_or o' m e').lists) (sym none) (by o')
  where
    by : (x : Option ValueRegister) → IsLeaner e.lists (preloaded_or x m e').lists
    by None = k
    by (Some location) = let a = h.registers in record { registers = omega (arith, a, more); nothing = k.nothing }

-- values of other kinds
variable_leaner : (x : Option (ℕ × Scalar)) (g : Option GlobalCells) (from to into : ℕ) (l m : Lists) → IsLeaner l m → IsLeaner (variable x g from into l).lists (variable x g to into m).lists
variable_leaner (Some x) g from to into l m h = used_leaner x.0 l m h
variable_leaner None (Some g) from to into l m h = used_leaner into l m h
variable_leaner None None from to into l m h = used_leaner into l m h

variable_register : (x : Option (ℕ × Scalar)) (g : Option GlobalCells) (from to into : ℕ) (l m : Lists) → (variable x g from into l).location.register ≡ (variable x g to into m).location.register
variable_register (Some x) g from to into l m = refl
variable_register None (Some g) from to into l m = refl
variable_register None None from to into l m = refl

element_leaner : (g : Option GlobalCells) (i j : Emitted) (from to into : ℕ) (l m : Lists) → IsLeaner l m → IsLeaner i.lists j.lists → IsLeaner (element g i from into l).lists (element g j to into m).lists
element_leaner (Some g) i j from to into l m h k = used_leaner into i.lists j.lists k
element_leaner None i j from to into l m h k = used_leaner into l m h

element_register : (g : Option GlobalCells) (i j : Emitted) (from to into : ℕ) (l m : Lists) → (element g i from into l).location.register ≡ (element g j to into m).location.register
element_register (Some g) i j from to into l m = refl
element_register None i j from to into l m = refl

called_leaner : (f : Option Callee) (args others : AllEmitted) (from to into : ℕ) (l m : Lists) → args.registers ≡ others.registers → IsLeaner l m → IsLeaner args.lists others.lists → IsLeaner (call_code f args from into l).lists (call_code f others to into m).lists
called_leaner None args others from to into l m e h k = used_leaner into l m h
called_leaner (Some f) args others from to into l m e h k =
    let handed = argument_order f.parameters args.registers in
    let n : length handed ≡ length (argument_order f.parameters others.registers) = ap (λ rs. length (argument_order f.parameters rs)) e in
    let a = max_more others.lists.registers args.lists.registers (length handed) k.registers in
    let b = max_more (max others.lists.registers (length handed)) (max args.lists.registers (length handed)) (suc into) a in
    record {
      registers = subst (λ (x : ℕ). max (max others.lists.registers x) (suc into) ≤ max (max args.lists.registers (length handed)) (suc into)) n b;
      nothing = k.nothing;
    }

called_register : (f : Option Callee) (args others : AllEmitted) (from to into : ℕ) (l m : Lists) → (call_code f args from into l).location.register ≡ (call_code f others to into m).location.register
called_register None args others from to into l m = refl
called_register (Some f) args others from to into l m = refl

into_leaner : (r : ℕ) (e d : Emitted) → e.location.register ≡ d.location.register → IsLeaner e.lists d.lists → IsLeaner (value_into r e).lists (value_into r d).lists
into_leaner r e d same h =
    subst (λ (x : ℕ). IsLeaner (value_into r e).lists (if x == r then d else then_one d (own.Move r d.location.register) r d.location.ty).lists) same (by (e.location.register == r))
  where
    by : (b : Bool) → IsLeaner (if b then e else then_one e (own.Move r e.location.register) r e.location.ty).lists (if b then d else then_one d (own.Move r d.location.register) r d.location.ty).lists
    by true = h
    by false = used_leaner r e.lists d.lists h

compared_leaner : (e d : Emitted) (into free : ℕ) → e.location.register ≡ d.location.register → IsLeaner e.lists d.lists → IsLeaner (logical_negation e into free).lists (logical_negation d into free).lists
compared_leaner e d into free same h =
    let a = used_both (above free e.location.register) (above free d.location.register) e.lists d.lists (ap (λ r. above free r) same) h in
    used_leaner into (with_register (above free e.location.register) e.lists) (with_register (above free d.location.register) d.lists) a

pub converted_leaner : (o : Option (ℕ → ℕ → Instr)) (u : Scalar) (e d : Emitted) (into : ℕ) → IsLeaner e.lists d.lists → IsLeaner (converted_by o u e into).lists (converted_by o u d into).lists
converted_leaner None u e d into h = h
converted_leaner (Some i) u e d into h = used_leaner into e.lists d.lists h

pub converted_register : (o : Option (ℕ → ℕ → Instr)) (u : Scalar) (e d : Emitted) (into : ℕ) → e.location.register ≡ d.location.register → (converted_by o u e into).location.register ≡ (converted_by o u d into).location.register
converted_register None u e d into same = same
converted_register (Some i) u e d into same = refl

in_type_leaner : (s u : Scalar) (e' : Expr) (e d : Emitted) (from to into : ℕ) (l m : Lists) → IsLeaner l m → IsLeaner e.lists d.lists → IsLeaner (in_type s u e' e from into l).lists (in_type s u e' d to into m).lists
in_type_leaner s u (Constant n t at) e d from to into l m h k = used_leaner into l m h
in_type_leaner s u e' e d from to into l m h k = converted_leaner (converting s u) u e d into k

in_type_register : (s u : Scalar) (e' : Expr) (e d : Emitted) (from to into : ℕ) (l m : Lists) → e.location.register ≡ d.location.register → (in_type s u e' e from into l).location.register ≡ (in_type s u e' d to into m).location.register
in_type_register s u (Constant n t at) e d from to into l m same = refl
in_type_register s u e' e d from to into l m same = converted_register (converting s u) u e d into same

in_first_leaner : (s : Scalar) (ts : List Scalar) (e' : Expr) (e d : Emitted) (from to into : ℕ) (l m : Lists) → IsLeaner l m → IsLeaner e.lists d.lists → IsLeaner (in_first_type s ts e' e from into l).lists (in_first_type s ts e' d to into m).lists
in_first_leaner s [] e' e d from to into l m h k = k
in_first_leaner s (u ∷ us) e' e d from to into l m h k = in_type_leaner s u e' e d from to into l m h k

in_first_register : (s : Scalar) (ts : List Scalar) (e' : Expr) (e d : Emitted) (from to into : ℕ) (l m : Lists) → e.location.register ≡ d.location.register → (in_first_type s ts e' e from into l).location.register ≡ (in_first_type s ts e' d to into m).location.register
in_first_register s [] e' e d from to into l m same = same
in_first_register s (u ∷ us) e' e d from to into l m same = in_type_register s u e' e d from to into l m same

tested_leaner : (o o' : Option Condition) (e d : Emitted) → BothLeaner o o' → IsLeaner e.lists d.lists → IsLeaner (condition_of o e).lists (condition_of o' d).lists
tested_leaner None None e d h k = k
tested_leaner (Some c) (Some c') e d h k = h
tested_leaner None (Some c') e d h k = absurd h
tested_leaner (Some c) None e d h k = absurd h

zero_leaner : (o : Option Bool) (c d : Condition) → IsLeaner c.lists d.lists → BothLeaner (zero_tested o c) (zero_tested o d)
zero_leaner None c d h = tt
zero_leaner (Some true) c d h = h
zero_leaner (Some false) c d h = h

same_leaner : (i : Option (ℕ → ℕ → Instr)) (o o' : Option Condition) → BothLeaner o o' → BothLeaner (where_same i o) (where_same i o')
same_leaner None o o' h = h
same_leaner (Some i) o o' h = tt

module _ (p : Program) (scope : LocalScope) where
  -- a value lies in the same register, whatever the place and the lists
  pub same_register : (e : Expr) (from to into free : ℕ) (l m : Lists) → (emit p scope e from into free l).location.register ≡ (emit p scope e to into free m).location.register
  same_register (Variable x) from to into free l m = variable_register (newest scope x.text) (global_of p x.text) from to into l m
  same_register (Constant n t at) from to into free l m = refl
  same_register (Element x i at) from to into free l m = element_register (global_of p x.text) (emit p scope i from free free l) (emit p scope i to free free m) from to into l m
  same_register (Call f es at) from to into free l m = called_register (callee_of p f.text) (emit_all p scope (taken_types (callee_of p f.text)) es from free l) (emit_all p scope (taken_types (callee_of p f.text)) es to free m) from to into l m
  same_register (Parenthesized e at) from to into free l m = same_register e from to into free l m
  same_register (Cast t e at) from to into free l m = in_type_register (emitted_type p scope e) t e (emit p scope e from into free l) (emit p scope e to into free m) from to into l m (same_register e from to into free l m)
  same_register (Unary Negate e at) from to into free l m = refl
  same_register (Unary Keep e at) from to into free l m = same_register e from to into free l m
  same_register (Unary Not e at) from to into free l m = refl
  same_register (Unary Complement e at) from to into free l m = refl
  same_register (Binary op a b at) from to into free l m = refl
  same_register (Logical op a b at) from to into free l m = refl
  same_register (Conditional c a b at) from to into free l m = refl
  same_register (InTransaction mode keyword e at) from to into free l m = same_register e (from + 1) (to + 1) into free l m

  pub due_register : (u : Scalar) (e : Expr) (from to into free : ℕ) (l m : Lists) → (as_type p scope u e from into free l).location.register ≡ (as_type p scope u e to into free m).location.register
  due_register u e from to into free l m = in_type_register (emitted_type p scope e) u e (emit p scope e from into free l) (emit p scope e to into free m) from to into l m (same_register e from to into free l m)

  pub same_registers : (ts : List Scalar) (es : Exprs) (from to free : ℕ) (l m : Lists) → (emit_all p scope ts es from free l).registers ≡ (emit_all p scope ts es to free m).registers
  same_registers ts Exprs.[] from to free l m = refl
  same_registers ts (Exprs.◌∷◌ e es) from to free l m =
      let made = emit p scope e from free free l in
      let made' = emit p scope e to free free m in
      let first = in_first_type (emitted_type p scope e) ts e made from free l in
      let other = in_first_type (emitted_type p scope e) ts e made' to free m in
      let rest = same_registers (types_left ts) es first.location.to other.location.to (above free first.location.register) first.lists other.lists in
      ap (λ rs. first.location.register ∷ rs) rest
      ∙ ap (λ r. r ∷ (emit_all p scope (types_left ts) es other.location.to (above free r) other.lists).registers) (in_first_register (emitted_type p scope e) ts e made made' from to free l m (same_register e from to free free l m))

  by_parts : (e : Expr) (from to free : ℕ) (l m : Lists) → BothLeaner (own_condition p scope e from free l) (own_condition p scope e to free m) → IsLeaner (emit p scope e from free free l).lists (emit p scope e to free free m).lists → IsLeaner (condition p scope e from free l).lists (condition p scope e to free m).lists
  by_parts e from to free l m h k = tested_leaner (own_condition p scope e from free l) (own_condition p scope e to free m) (emit p scope e from free free l) (emit p scope e to free free m) h k

  mutual
    pub emitted_leaner : (e : Expr) (from to into free : ℕ) (l m : Lists) → IsLeaner l m → IsLeaner (emit p scope e from into free l).lists (emit p scope e to into free m).lists
    emitted_leaner (Variable x) from to into free l m h = variable_leaner (newest scope x.text) (global_of p x.text) from to into l m h
    emitted_leaner (Constant n t at) from to into free l m h = used_leaner into l m h
    emitted_leaner (Element x i at) from to into free l m h =
        element_leaner (global_of p x.text) (emit p scope i from free free l) (emit p scope i to free free m) from to into l m h (emitted_leaner i from to free free l m h)
    emitted_leaner (Call f es at) from to into free l m h =
        let ts = taken_types (callee_of p f.text) in
        called_leaner (callee_of p f.text) (emit_all p scope ts es from free l) (emit_all p scope ts es to free m) from to into l m (same_registers ts es from to free l m) h (all_leaner ts es from to free l m h)
    emitted_leaner (Parenthesized e at) from to into free l m h = emitted_leaner e from to into free l m h
    emitted_leaner (Cast t e at) from to into free l m h = in_type_leaner (emitted_type p scope e) t e (emit p scope e from into free l) (emit p scope e to into free m) from to into l m h (emitted_leaner e from to into free l m h)
    emitted_leaner (Unary Negate e at) from to into free l m h =
        used_leaner into (emit p scope e from free free l).lists (emit p scope e to free free m).lists (emitted_leaner e from to free free l m h)
    emitted_leaner (Unary Keep e at) from to into free l m h = emitted_leaner e from to into free l m h
    emitted_leaner (Unary Not e at) from to into free l m h =
        compared_leaner (emit p scope e from free free l) (emit p scope e to free free m) into free (same_register e from to free free l m) (emitted_leaner e from to free free l m h)
    emitted_leaner (Unary Complement e at) from to into free l m h =
        used_leaner into (emit p scope e from free free l).lists (emit p scope e to free free m).lists (emitted_leaner e from to free free l m h)
    emitted_leaner (Binary op a b at) from to into free l m h =
        let t = operand_type op (emitted_type p scope a) (emitted_type p scope b) in
        let v = operand_type op (emitted_type p scope b) (emitted_type p scope a) in
        let left = as_type p scope t a from free free l in
        let other = as_type p scope t a to free free m in
        let later = above free left.location.register in
        let x = in_type_leaner (emitted_type p scope a) t a (emit p scope a from free free l) (emit p scope a to free free m) from to free l m h (emitted_leaner a from to free free l m h) in
        let y = in_type_leaner (emitted_type p scope b) v b (emit p scope b left.location.to later later left.lists) (emit p scope b other.location.to later later other.lists) left.location.to other.location.to later left.lists other.lists x (emitted_leaner b left.location.to other.location.to later later left.lists other.lists x) in
        used_leaner into (operand p scope v b left.location.to later left.lists).lists (operand p scope v b other.location.to (above free other.location.register) other.lists).lists
        (subst (λ (r : ℕ). IsLeaner (operand p scope v b left.location.to later left.lists).lists (operand p scope v b other.location.to (above free r) other.lists).lists) (due_register t a from to free free l m)
        (right_leaner (preloaded_constant left.lists.layout v b left.location.to) (preloaded_constant other.lists.layout v b other.location.to) left.lists other.lists
        (as_type p scope v b left.location.to later later left.lists) (as_type p scope v b other.location.to later later other.lists)
        (no_constant_ready left.lists.layout v b left.location.to x.nothing) x y (due_more p scope v b left.location.to later later left.lists)))
    emitted_leaner (Logical op a b at) from to into free l m h =
        let first = condition p scope a from free l in
        let other = condition p scope a to free m in
        let x = by_parts a from to free l m (own_leaner a from to free l m h) (emitted_leaner a from to free free l m h) in
        let y = by_parts b (first.to + 1) (other.to + 1) free first.lists other.lists (own_leaner b (first.to + 1) (other.to + 1) free first.lists other.lists x) (emitted_leaner b (first.to + 1) (other.to + 1) free free first.lists other.lists x) in
        used_leaner into (condition p scope b (first.to + 1) free first.lists).lists (condition p scope b (other.to + 1) free other.lists).lists y
    emitted_leaner (Conditional c a b at) from to into free l m h =
        let test = condition p scope c from free l in
        let other = condition p scope c to free m in
        let t = common (emitted_type p scope a) (emitted_type p scope b) in
        let first = as_type p scope t a (test.to + 1) into free test.lists in
        let first' = as_type p scope t a (other.to + 1) into free other.lists in
        let u = (value_into into first).location.to + 1 in
        let u' = (value_into into first').location.to + 1 in
        let x = by_parts c from to free l m (own_leaner c from to free l m h) (emitted_leaner c from to free free l m h) in
        let y = in_type_leaner (emitted_type p scope a) t a (emit p scope a (test.to + 1) into free test.lists) (emit p scope a (other.to + 1) into free other.lists) (test.to + 1) (other.to + 1) into test.lists other.lists x (emitted_leaner a (test.to + 1) (other.to + 1) into free test.lists other.lists x) in
        let z = into_leaner into first first' (due_register t a (test.to + 1) (other.to + 1) into free test.lists other.lists) y in
        let w = in_type_leaner (emitted_type p scope b) t b (emit p scope b u into free (value_into into first).lists) (emit p scope b u' into free (value_into into first').lists) u u' into (value_into into first).lists (value_into into first').lists z (emitted_leaner b u u' into free (value_into into first).lists (value_into into first').lists z) in
        into_leaner into (as_type p scope t b u into free (value_into into first).lists) (as_type p scope t b u' into free (value_into into first').lists)
        (due_register t b u u' into free (value_into into first).lists (value_into into first').lists) w
    emitted_leaner (InTransaction mode keyword e at) from to into free l m h = emitted_leaner e (from + 1) (to + 1) into free l m h

    own_leaner : (e : Expr) (from to free : ℕ) (l m : Lists) → IsLeaner l m → BothLeaner (own_condition p scope e from free l) (own_condition p scope e to free m)
    own_leaner (Parenthesized e at) from to free l m h = own_leaner e from to free l m h
    own_leaner (Cast t e at) from to free l m h = same_leaner (converting (emitted_type p scope e) t) (own_condition p scope e from free l) (own_condition p scope e to free m) (own_leaner e from to free l m h)
    own_leaner (Unary Keep e at) from to free l m h = own_leaner e from to free l m h
    own_leaner (Unary Not e at) from to free l m h = by_parts e from to free l m (own_leaner e from to free l m h) (emitted_leaner e from to free free l m h)
    own_leaner (Binary op a b at) from to free l m h =
        zero_leaner (zero_test op b) (condition p scope a from free l) (condition p scope a to free m)
        (by_parts a from to free l m (own_leaner a from to free l m h) (emitted_leaner a from to free free l m h))
    own_leaner (Logical op a b at) from to free l m h =
        let first = condition p scope a from free l in
        let other = condition p scope a to free m in
        let x = by_parts a from to free l m (own_leaner a from to free l m h) (emitted_leaner a from to free free l m h) in
        by_parts b (first.to + 1) (other.to + 1) free first.lists other.lists (own_leaner b (first.to + 1) (other.to + 1) free first.lists other.lists x)
        (emitted_leaner b (first.to + 1) (other.to + 1) free free first.lists other.lists x)
    own_leaner e from to free l m h = tt

    pub all_leaner : (ts : List Scalar) (es : Exprs) (from to free : ℕ) (l m : Lists) → IsLeaner l m → IsLeaner (emit_all p scope ts es from free l).lists (emit_all p scope ts es to free m).lists
    all_leaner ts Exprs.[] from to free l m h = h
    all_leaner ts (Exprs.◌∷◌ e es) from to free l m h =
        let made = emit p scope e from free free l in
        let made' = emit p scope e to free free m in
        let first = in_first_type (emitted_type p scope e) ts e made from free l in
        let other = in_first_type (emitted_type p scope e) ts e made' to free m in
        let x = in_first_leaner (emitted_type p scope e) ts e made made' from to free l m h (emitted_leaner e from to free free l m h) in
        subst (λ (r : ℕ). IsLeaner (emit_all p scope (types_left ts) es first.location.to (above free first.location.register) first.lists).lists (emit_all p scope (types_left ts) es other.location.to (above free r) other.lists).lists) (in_first_register (emitted_type p scope e) ts e made made' from to free l m (same_register e from to free free l m))
        (all_leaner (types_left ts) es first.location.to other.location.to (above free first.location.register) first.lists other.lists x)

  pub condition_leaner : (e : Expr) (from to free : ℕ) (l m : Lists) → IsLeaner l m → IsLeaner (condition p scope e from free l).lists (condition p scope e to free m).lists
  condition_leaner e from to free l m h = by_parts e from to free l m (own_leaner e from to free l m h) (emitted_leaner e from to free free l m h)

  pub due_leaner : (u : Scalar) (e : Expr) (from to into free : ℕ) (l m : Lists) → IsLeaner l m → IsLeaner (as_type p scope u e from into free l).lists (as_type p scope u e to into free m).lists
  due_leaner u e from to into free l m h = in_type_leaner (emitted_type p scope e) u e (emit p scope e from into free l) (emit p scope e to into free m) from to into l m h (emitted_leaner e from to into free l m h)

  pub operand_leaner : (u : Scalar) (e : Expr) (from to free : ℕ) (l m : Lists) → IsLeaner l m → IsLeaner (operand p scope u e from free l).lists (operand p scope u e to free m).lists
  operand_leaner u e from to free l m h =
      right_leaner (preloaded_constant l.layout u e from) (preloaded_constant m.layout u e to) l m (as_type p scope u e from free free l) (as_type p scope u e to free free m)
      (no_constant_ready l.layout u e from h.nothing) h (due_leaner u e from to free free l m h) (due_more p scope u e from free free l)
