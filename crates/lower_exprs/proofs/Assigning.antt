-- An assignment by its parts: where it goes, the old value and another one, the result, and that it goes there.
use Rattle.std.proofs.Common.{◌≡◌, true, false, ℕ, suc, ◌≤◌, List, Option, Some, Result, Ok, ap, ◌∙◌, arith}
use Rattle.lex.specs.declared.token.Scalar.{Scalar}
use Rattle.syntax.specs.declared.tree.BinaryOp.{BinaryOp}
use Rattle.syntax.specs.Tree as Tree
use Rattle.syntax.specs.Tree.{Program}
use Rattle.bytecode.specs.declared.instr.Instr.{Instr}
use Rattle.lower_spec.specs.Expressions.{LocalScope}
use Rattle.selection.specs.declared.locations.ValueRegister.{ValueRegister}
use Rattle.selection.specs.declared.locations.AssignmentTarget.TheVariants as target
use Rattle.selection.specs.Lists.{Lists}
use Rattle.selection.specs.Expressions.{Emitted, emitted_type, emit}
use Rattle.selection.specs.Simples.{Aimed, target_code, above_target, home_or, target_store, then_stored, stored_value, compound_value, assignment_code, compound_code, first_written}
use Rattle.selection.proofs.Growing.{emitted_more}
use Rattle.selection.proofs.GrowingStmts.{stored_same, expr_fitting_more, changed_more}
use Rattle.lower_exprs.specs.declared.aim.Aim.{Aim}
use Rattle.lower_exprs.specs.declared.fault.LowerFailure.{LowerFailure}
use Rattle.lower_exprs.specs.Fragments.{Adds, of_value, of_written}
use Rattle.lower_exprs.specs.inner.Stretches.{of_aim}
use Rattle.lower_exprs.proofs.Adding.{behind, same, in_turn}

module _ (p : Program) (scope : LocalScope) (lhs : Tree.Expr) (from free : ℕ) (l : Lists) where
  -- `lhs = e`
  module _ (e : Tree.Expr) where
    abbrev TargetCode : Aimed
    TargetCode = target_code p scope true lhs from free l

    abbrev Value : Emitted
    Value = stored_value p scope TargetCode.target e TargetCode.to (home_or TargetCode.target (above_target TargetCode.target free)) (above_target TargetCode.target free) TargetCode.lists

    pub value_within : Value.lists.registers ≤ (assignment_code p scope lhs e from free l).lists.registers
    value_within = let x = stored_same TargetCode.target Value.location.register Value.location.to Value.lists in omega (arith, x)

    pub lvalue_within : TargetCode.lists.registers ≤ (assignment_code p scope lhs e from free l).lists.registers
    lvalue_within =
        let later = above_target TargetCode.target free in
        let home = home_or TargetCode.target later in
        let x = expr_fitting_more TargetCode.target (emitted_type p scope e) e (emit p scope e TargetCode.to home later TargetCode.lists) TargetCode.to home TargetCode.lists (emitted_more p scope e TargetCode.to home later TargetCode.lists) in
        let y = value_within in
        omega (arith, x, y)

    module _ {old c1 : List Instr} {l1 : Lists} {a : Aim} {later home : ℕ} (k : Adds (of_aim TargetCode) old c1 l1 (Ok a)) (el : later ≡ above_target a.target free) (eh : home ≡ home_or a.target later) where
      value_is : stored_value p scope a.target e a.to home later l1 ≡ Value
      value_is =
          let above : later ≡ above_target TargetCode.target free = el ∙ ap (λ (a : Aim). above_target a.target free) k.end in
          λ j. stored_value p scope (k.end j).target e (k.end j).to ((eh ∙ (λ i. home_or (k.end i).target (above i))) j) (above j) (k.lists j)

      pub value_behind : {c2 : List Instr} {l2 : Lists} {r : Result ValueRegister LowerFailure} → Adds (of_value (stored_value p scope a.target e a.to home later l1)) c1 c2 l2 r → Adds (behind (of_aim TargetCode) (of_value Value)) old c2 l2 r
      value_behind v = in_turn k (ap of_value value_is) v

      pub assigned_there : {c2 c3 : List Instr} {l2 : Lists} {h : ValueRegister} {r : Result ℕ LowerFailure} → Adds (of_value (stored_value p scope a.target e a.to home later l1)) c1 c2 l2 (Ok h) → Adds (of_written (target_store a.target h.register h.to l2)) c2 c3 l2 r →
          Adds (of_written (assignment_code p scope lhs e from free l)) old c3 l2 r
      assigned_there v s =
          in_turn k (λ j. of_written (then_stored (k.end j).target (value_is j)))
          (in_turn v (λ j. of_written (target_store a.target (v.end j).register (v.end j).to (v.lists j))) s)

  -- `lhs op= by`, or by 1
  module _ (op : BinaryOp) (by : Option Tree.Expr) where
    abbrev T : Aimed
    T = target_code p scope false lhs from free l

    abbrev K : ℕ
    K = above_target T.target free

    abbrev M : Emitted
    M = compound_value p scope op by T.target T.to K T.lists

    pub result_within : M.lists.registers ≤ (compound_code p scope op lhs by from free l).lists.registers
    result_within = let x = stored_same T.target M.location.register M.location.to M.lists in omega (arith, x)

    pub target_within : T.lists.registers ≤ (compound_code p scope op lhs by from free l).lists.registers
    target_within = let x = changed_more p scope op by T.target T.to K T.lists in let y = result_within in omega (arith, x, y)

    module _ {old c1 : List Instr} {l1 : Lists} {a : Aim} {later : ℕ} (k : Adds (of_aim T) old c1 l1 (Ok a)) (el : later ≡ above_target a.target free) where
      pub result_there : {c2 : List Instr} {l2 : Lists} {r : Result ValueRegister LowerFailure} → Adds (of_value (compound_value p scope op by a.target a.to later l1)) c1 c2 l2 r → Adds (of_value M) c1 c2 l2 r
      result_there x = same (λ j. of_value (compound_value p scope op by (k.end j).target (k.end j).to ((el ∙ ap (λ (a : Aim). above_target a.target free) k.end) j) (k.lists j))) x

      pub adjusted_there : {c2 c3 : List Instr} {l2 : Lists} {m : ValueRegister} {r : Result ℕ LowerFailure} → Adds (of_value (compound_value p scope op by a.target a.to later l1)) c1 c2 l2 (Ok m) → Adds (of_written (target_store a.target m.register m.to l2)) c2 c3 l2 r →
          Adds (of_written (compound_code p scope op lhs by from free l)) old c3 l2 r
      adjusted_there x s =
          let made = result_there x in
          in_turn k (λ j. of_written (then_stored (k.end j).target M)) (in_turn made (λ j. of_written (target_store a.target (made.end j).register (made.end j).to (made.lists j))) s)

-- the first value of a local
module _ (p : Program) (s : LocalScope) (i : ℕ) (t : Scalar) (e : Tree.Expr) (from k : ℕ) (l : Lists) (ek : k ≡ suc i) where
  abbrev First : Emitted
  First = stored_value p s (target.Local i t) e from i (suc i) l

  pub first_is : stored_value p s (target.Local i t) e from i k l ≡ First
  first_is = λ j. stored_value p s (target.Local i t) e from i (ek j) l

  pub first_within : First.lists.registers ≤ (first_written p s i t (Some e) from l).lists.registers
  first_within = let x = stored_same (target.Local i t) First.location.register First.location.to First.lists in omega (arith, x)

  pub first_there : {old c1 c2 : List Instr} {l1 : Lists} {h : ValueRegister} {r : Result ℕ LowerFailure} → Adds (of_value First) old c1 l1 (Ok h) → Adds (of_written (target_store (target.Local i t) h.register h.to l1)) c1 c2 l1 r → Adds (of_written (first_written p s i t (Some e) from l)) old c2 l1 r
  first_there v s = in_turn v (λ j. of_written (target_store (target.Local i t) (v.end j).register (v.end j).to (v.lists j))) s
