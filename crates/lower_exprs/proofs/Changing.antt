-- A value on its way to a target, and the old value with an operator on it, by their parts.
use Rattle.std.proofs.Common.{◌≡◌, ℕ, ◌≤◌, List, Option, None, Result, Ok, refl, sym, ap, ◌∙◌, arith}
use Rattle.lex.specs.declared.token.Scalar.{Scalar}
use Rattle.syntax.specs.declared.tree.BinaryOp.{BinaryOp}
use Rattle.syntax.specs.Tree as Tree
use Rattle.syntax.specs.Tree.{Program}
use Rattle.syntax.specs.Numbers.{operand_type, result_type}
use Rattle.bytecode.specs.declared.instr.Instr.{Instr}
use Rattle.lower_spec.specs.Expressions.{LocalScope}
use Rattle.selection.specs.declared.locations.ValueRegister.{ValueRegister}
use Rattle.selection.specs.declared.locations.AssignmentTarget.{AssignmentTarget}
use Rattle.selection.specs.Lists.{Lists}
use Rattle.selection.specs.Expressions.{Emitted, above, converting, converted_by, emitted_type, both, emit}
use Rattle.selection.specs.inner.Parts.{constant_of}
use Rattle.selection.specs.Simples.{target_value, home_or, type_at, taking, fitting, stored_value, value_or_one, type_or_int, compound_value}
use Rattle.selection.proofs.Growing.{used_more, converted_more}
use Rattle.selection.proofs.GrowingStmts.{one_more}
use Rattle.selection.proofs.stands.Kinds.{emitted_is}
use Rattle.lower_exprs.specs.declared.fault.LowerFailure.{LowerFailure}
use Rattle.lower_exprs.specs.Fragments.{Adds, of_value}
use Rattle.lower_exprs.specs.inner.Stretches.{in_place}
use Rattle.lower_exprs.proofs.Adding.{same, in_turn}
use Rattle.lower_exprs.proofs.Nodes.{converted_behind}

module _ (p : Program) (scope : LocalScope) (t : AssignmentTarget) (e : Tree.Expr) (from home free : ℕ) (l : Lists) where
  placed_other : constant_of e ≡ None → stored_value p scope t e from home free l ≡ fitting t (emitted_type p scope e) (emit p scope e from home free l) home
  placed_other k = by e k
    where
      by : (e : Tree.Expr) → constant_of e ≡ None → stored_value p scope t e from home free l ≡ fitting t (emitted_type p scope e) (emit p scope e from home free l) home
      by (Tree.Constant m s at) k = absurd (cc)
      by e k = refl

  pub placed_there : constant_of e ≡ None → {old mid new : List Instr} {l1 l2 : Lists} {h : ValueRegister} {r : Result ValueRegister LowerFailure} → Adds (of_value (emit p scope e from home free l)) old mid l1 (Ok h) → Adds (of_value (fitting t h.ty (in_place h l1) home)) mid new l2 r → Adds (of_value (stored_value p scope t e from home free l)) old new l2 r
  placed_there none k m =
      let own = emitted_is p scope e from home free l in
      let whole = in_turn k (λ j. of_value (fitting t ((ap (λ (x : ValueRegister). x.ty) k.end ∙ own) j) (in_place (k.end j) (k.lists j)) home)) m in
      same (converted_behind (taking t (emitted_type p scope e)) (type_at t) (emit p scope e from home free l) home ∙ ap of_value (sym (placed_other none))) whole

  pub placed_within : constant_of e ≡ None → (emit p scope e from home free l).lists.registers ≤ (stored_value p scope t e from home free l).lists.registers
  placed_within none =
      let x = converted_more (taking t (emitted_type p scope e)) (type_at t) (emit p scope e from home free l) home in
      let y = ap (λ (w : Emitted). w.lists.registers) (placed_other none) in
      omega (arith, x, y)

module _ (p : Program) (scope : LocalScope) (op : BinaryOp) (by : Option Tree.Expr) (t : AssignmentTarget) (from free : ℕ) (l : Lists) where
  abbrev S : Scalar
  S = type_at t

  abbrev T : Scalar
  T = type_or_int p scope by

  abbrev U : Scalar
  U = operand_type op S T

  abbrev V : Scalar
  V = operand_type op T S

  abbrev F : Emitted
  F = target_value t from free l

  abbrev O : Emitted
  O = converted_by (converting S U) U F free

  abbrev R : Emitted
  R = value_or_one p scope V by O.location.to (above free O.location.register) O.lists

  abbrev M : Emitted
  M = both op U O R (home_or t free)

  pub both_within : M.lists.registers ≤ (compound_value p scope op by t from free l).lists.registers
  both_within = converted_more (taking t (result_type op U)) S M (home_or t free)

  pub right_within : R.lists.registers ≤ (compound_value p scope op by t from free l).lists.registers
  right_within = let x = used_more (home_or t free) R.lists in let y = both_within in omega (arith, x, y)

  pub old_within : O.lists.registers ≤ (compound_value p scope op by t from free l).lists.registers
  old_within = let x = one_more p scope V by O.location.to (above free O.location.register) O.lists in let y = right_within in omega (arith, x, y)

  pub fetched_within : F.lists.registers ≤ (compound_value p scope op by t from free l).lists.registers
  fetched_within = let x = converted_more (converting S U) U F free in let y = old_within in omega (arith, x, y)

  module _ {own other ty due : Scalar} (eo : own ≡ S) (et : other ≡ T) (eu : ty ≡ operand_type op own other) (ev : due ≡ operand_type op other own) where
    of_is : ty ≡ U
    of_is = eu ∙ (λ j. operand_type op (eo j) (et j))

    due_is : due ≡ V
    due_is = ev ∙ (λ j. operand_type op (et j) (eo j))

    module _ {old c1 : List Instr} {l1 : Lists} {f : ValueRegister} (k : Adds (of_value F) old c1 l1 (Ok f)) where
      pub old_there : {c2 : List Instr} {l2 : Lists} {r : Result ValueRegister LowerFailure} → Adds (of_value (converted_by (converting own ty) ty (in_place f l1) free)) c1 c2 l2 r → Adds (of_value O) old c2 l2 r
      old_there x = same (converted_behind (converting S U) U F free) (in_turn k (λ j. of_value (converted_by (converting (eo j) (of_is j)) (of_is j) (in_place (k.end j) (k.lists j)) free)) x)

    module _ {old c2 : List Instr} {l2 : Lists} {o : ValueRegister} {next : ℕ} (k : Adds (of_value O) old c2 l2 (Ok o)) (en : next ≡ above free o.register) where
      pub right_there : {c3 : List Instr} {l3 : Lists} {r : Result ValueRegister LowerFailure} → Adds (of_value (value_or_one p scope due by o.to next l2)) c2 c3 l3 r → Adds (of_value R) c2 c3 l3 r
      right_there x = same (λ j. of_value (value_or_one p scope (due_is j) by (k.end j).to ((en ∙ ap (λ (h : ValueRegister). above free h.register) k.end) j) (k.lists j))) x

      module _ {c3 : List Instr} {l3 : Lists} {v : ValueRegister} {home : ℕ} (w : Adds (of_value R) c2 c3 l3 (Ok v)) (eh : home ≡ home_or t free) where
        pub both_there : {c4 : List Instr} {l4 : Lists} {r : Result ValueRegister LowerFailure} → Adds (of_value (both op ty (in_place o l3) (in_place v l3) home)) c3 c4 l4 r → Adds (of_value M) old c4 l4 r
        both_there x = in_turn (in_turn k (λ j. of_value R) w) (λ j. of_value (both op (of_is j) (in_place (k.end j) (w.lists j)) (in_place (w.end j) (w.lists j)) (eh j))) x

    pub changed_there : {old c4 c5 : List Instr} {l4 l5 : Lists} {m : ValueRegister} {home : ℕ} {u : Scalar} {r : Result ValueRegister LowerFailure} → Adds (of_value M) old c4 l4 (Ok m) → home ≡ home_or t free → u ≡ result_type op ty → Adds (of_value (fitting t u (in_place m l4) home)) c4 c5 l5 r → Adds (of_value (compound_value p scope op by t from free l)) old c5 l5 r
    changed_there k eh er x =
        same (converted_behind (taking t (result_type op U)) S M (home_or t free))
        (in_turn k (λ j. of_value (fitting t ((er ∙ ap (result_type op) of_is) j) (in_place (k.end j) (k.lists j)) (eh j))) x)
