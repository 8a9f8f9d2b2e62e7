-- A condition, and one of two values in one register.
use Rattle.std.proofs.Common.{◌≡◌, ℕ, ◌+◌, ◌≤◌, List, [], Bool, true, false, if◌then◌else◌, ◌==◌, Ok, refl, ap, ◌∙◌, append-nil, arith}
use Rattle.lex.specs.declared.token.Scalar.{Scalar}
use Rattle.syntax.specs.Tree as Tree
use Rattle.syntax.specs.Tree.{Program}
use Rattle.syntax.specs.Numbers.{common}
use Rattle.bytecode.specs.declared.instr.Instr.{Instr}
use Rattle.bytecode.specs.declared.instr.Instr.TheVariants as own
use Rattle.lower_spec.specs.Expressions.{LocalScope}
use Rattle.selection.specs.declared.draft.Draft.{Draft}
use Rattle.selection.specs.declared.locations.ValueRegister.{ValueRegister}
use Rattle.selection.specs.declared.locations.ConditionRegister.{ConditionRegister}
use Rattle.selection.specs.Lists.{Lists}
use Rattle.selection.specs.Conditions.{Condition}
use Rattle.selection.specs.Expressions.{Emitted, value_into, then_one, conditional_value, emitted_type, as_type, condition}
use Rattle.selection.specs.inner.Parts.{conditional}
use Rattle.selection.proofs.Growing.{due_more, into_more}
use Rattle.lower_exprs.specs.Fragments.{Adds, of_value, of_test}
use Rattle.lower_exprs.specs.inner.Stretches.{in_place, standing, test_in_place}
use Rattle.lower_exprs.proofs.Adding.{behind, gathered, value_alone}

-- a value that comes into a register behind its instructions comes there with them
pub into_behind : (r : ℕ) (e : Emitted) → behind (of_value e) (of_value (value_into r (in_place e.location e.lists))) ≡ of_value (value_into r e)
into_behind r e = by (e.location.register == r)
  where
    by : (b : Bool) →
        behind (of_value e) (of_value (if b then in_place e.location e.lists else then_one (in_place e.location e.lists) (own.Move r e.location.register) r e.location.ty))
        ≡ of_value (if b then e else then_one e (own.Move r e.location.register) r e.location.ty)
    by true = λ j. record { code = append-nil e.code j; lists = e.lists; end = e.location }
    by false = refl

module _ (p : Program) (s : LocalScope) (c a b : Tree.Expr) (from into free : ℕ) (l : Lists) where
  abbrev C : Condition
  C = condition p s c from free l

  abbrev Both : Scalar
  Both = common (emitted_type p s a) (emitted_type p s b)

  abbrev One : Emitted
  One = value_into into (as_type p s Both a (C.to + 1) into free C.lists)

  abbrev Two : Emitted
  Two = value_into into (as_type p s Both b (One.location.to + 1) into free One.lists)

  -- no part needs more registers than the whole
  pub second_within : One.lists.registers ≤ (conditional p s c a b from into free l).lists.registers
  second_within =
      let x = due_more p s Both b (One.location.to + 1) into free One.lists in
      let y = into_more into (as_type p s Both b (One.location.to + 1) into free One.lists) in
      let z : (conditional p s c a b from into free l).lists.registers ≡ Two.lists.registers = refl in
      omega (arith, x, y, z)

  pub condition_within : C.lists.registers ≤ (conditional p s c a b from into free l).lists.registers
  condition_within =
      let x = due_more p s Both a (C.to + 1) into free C.lists in
      let y = into_more into (as_type p s Both a (C.to + 1) into free C.lists) in
      let z = second_within in
      omega (arith, x, y, z)

  module _ {before drafts : List Draft} {lc : Lists} {t : ConditionRegister} {next : ℕ} (kc : Adds (of_test (condition p s c from free l)) before drafts lc (Ok t)) (en : next ≡ t.to + 1) {ty : Scalar} (eof : ty ≡ Both) where
    pub one_is : value_into into (as_type p s ty a next into free lc) ≡ One
    one_is = λ j. value_into into (as_type p s (eof j) a ((en ∙ ap (λ (k : ConditionRegister). k.to + 1) kc.end) j) into free (kc.lists j))

    module _ {none first : List Instr} {la : Lists} {h : ValueRegister} {other : ℕ} (ka : Adds (of_value One) none first la (Ok h)) (eo : other ≡ h.to + 1) where
      pub two_is : value_into into (as_type p s ty b other into free la) ≡ Two
      two_is = λ j. value_into into (as_type p s (eof j) b ((eo ∙ ap (λ (k : ValueRegister). k.to + 1) ka.end) j) into free (ka.lists j))

      pub chosen_there : {none' second : List Instr} {shown : List Draft} {lb : Lists} {k : ValueRegister} → Adds (of_value Two) none' second lb (Ok k) → before ≡ [] → none ≡ [] → none' ≡ [] → shown ≡ drafts → k.register ≡ into →
          conditional_value ty (test_in_place shown t lb) (standing first h lb) (standing second k lb) k.register ≡ conditional p s c a b from into free l
      chosen_there kb e0 e1 e2 es er = λ j. conditional_value (eof j) (gathered kc e0 es j) (value_alone ka e1 j) (value_alone kb e2 j) (er j)
