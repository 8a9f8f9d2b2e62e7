-- An operator on two values by its parts.
use Rattle.std.proofs.Common.{◌≡◌, ℕ, ◌≤◌, List, Option, Some, None, Result, Ok, refl, sym, ap, ◌∙◌, arith}
use Rattle.std.specs.Prelude.{unwrap_or}
use Rattle.lex.specs.declared.token.Scalar.{Scalar}
use Rattle.lex.specs.declared.token.Scalar.TheVariants.{Int, Unsigned, LongLong}
use Rattle.lex.specs.declared.token.Span.{Span}
use Rattle.syntax.specs.declared.tree.BinaryOp.{BinaryOp}
use Rattle.syntax.specs.declared.tree.BinaryOp.TheVariants.{ShiftLeft, ShiftRight}
use Rattle.syntax.specs.Tree as Tree
use Rattle.syntax.specs.Tree.{Program}
use Rattle.syntax.specs.Numbers.{common, operand_type}
use Rattle.bytecode.specs.declared.instr.Instr.{Instr}
use Rattle.lower_spec.specs.Expressions.{LocalScope, constant_in}
use Rattle.selection.specs.declared.locations.ValueRegister.{ValueRegister}
use Rattle.selection.specs.Lists.{Lists}
use Rattle.selection.specs.Expressions.{Emitted, above, constant, converting, converted_by, both, emitted_type, emit, as_type, operand}
use Rattle.selection.specs.inner.Parts.{constant_of}
use Rattle.selection.proofs.Growing.{used_more, operand_more}
use Rattle.selection.proofs.stands.Kinds.{in_type_of, emitted_is}
use Rattle.lower_exprs.specs.declared.fault.LowerFailure.{LowerFailure}
use Rattle.lower_exprs.specs.Fragments.{Adds, of_value}
use Rattle.lower_exprs.specs.inner.Stretches.{in_place}
use Rattle.lower_exprs.proofs.Adding.{same, in_turn}
use Rattle.lower_exprs.proofs.Nodes.{due_there}

common_again : (own other : Scalar) → common other (common own other) ≡ common other own
common_again Int Int = refl
common_again Int Unsigned = refl
common_again Int LongLong = refl
common_again Unsigned Int = refl
common_again Unsigned Unsigned = refl
common_again Unsigned LongLong = refl
common_again LongLong Int = refl
common_again LongLong Unsigned = refl
common_again LongLong LongLong = refl

-- what is due on the right hangs on the left side's own type as it does on the one that is due there
due_again : (op : BinaryOp) (own other : Scalar) → operand_type op other (operand_type op own other) ≡ operand_type op other own
due_again ShiftLeft own other = refl
due_again ShiftRight own other = refl
due_again op own other = common_again own other

module _ (p : Program) (s : LocalScope) (op : BinaryOp) (a b : Tree.Expr) (at : Span) (from into free : ℕ) (l : Lists) where
  abbrev T : Scalar
  T = operand_type op (emitted_type p s a) (emitted_type p s b)

  abbrev U : Scalar
  U = operand_type op (emitted_type p s b) (emitted_type p s a)

  abbrev A : Emitted
  A = as_type p s T a from free free l

  abbrev B : Emitted
  B = operand p s U b A.location.to (above free A.location.register) A.lists

  abbrev Whole : Emitted
  Whole = emit p s (Tree.Binary op a b at) from into free l

  pub right_within : B.lists.registers ≤ Whole.lists.registers
  right_within = used_more into B.lists

  pub left_within : A.lists.registers ≤ Whole.lists.registers
  left_within = let x = operand_more p s U b A.location.to (above free A.location.register) A.lists in let y = right_within in omega (arith, x, y)

  module _ {other : Scalar} (et : other ≡ emitted_type p s b) where
    pub left_there : {old new : List Instr} {m : Lists} {r : Result ValueRegister LowerFailure} → Adds (of_value (as_type p s (operand_type op (emitted_type p s a) other) a from free free l)) old new m r → Adds (of_value A) old new m r
    left_there k = same (λ j. of_value (as_type p s (operand_type op (emitted_type p s a) (et j)) a from free free l)) k

    module _ {old c1 : List Instr} {l1 : Lists} {h : ValueRegister} {later : ℕ} {u : Scalar} (k : Adds (of_value A) old c1 l1 (Ok h)) (en : later ≡ above free h.register) (ev : u ≡ operand_type op other h.ty) where
      t_is : h.ty ≡ T
      t_is = ap (λ (h : ValueRegister). h.ty) k.end ∙ in_type_of (emitted_type p s a) T a (emit p s a from free free l) from free l

      u_is : u ≡ U
      u_is = ev ∙ (λ j. operand_type op (et j) (t_is j)) ∙ due_again op (emitted_type p s a) (emitted_type p s b)

      pub right_there : {c2 : List Instr} {l2 : Lists} {r : Result ValueRegister LowerFailure} → Adds (of_value (operand p s u b h.to later l1)) c1 c2 l2 r → Adds (of_value B) c1 c2 l2 r
      right_there x = same (λ j. of_value (operand p s (u_is j) b (k.end j).to ((en ∙ ap (λ (h : ValueRegister). above free h.register) k.end) j) (k.lists j))) x

      pub whole_there : {c2 c3 : List Instr} {l2 l3 : Lists} {i : ValueRegister} {r : Result ValueRegister LowerFailure} → Adds (of_value B) c1 c2 l2 (Ok i) → Adds (of_value (both op h.ty (in_place h l2) (in_place i l2) into)) c2 c3 l3 r → Adds (of_value Whole) old c3 l3 r
      whole_there w x = in_turn (in_turn k (λ j. of_value B) w) (λ j. of_value (both op (t_is j) (in_place (k.end j) (w.lists j)) (in_place (w.end j) (w.lists j)) into)) x

-- the left side in the type that is due: of a constant, and of another expression, whose register tells its own type
module _ (p : Program) (s : LocalScope) (op : BinaryOp) where
  pub left_constant : (own other : Scalar) (e : Tree.Expr) (n : ℕ) (from free : ℕ) (l : Lists) → constant_of e ≡ Some (n, own) → {ty : Scalar} {w : ℕ} {old new : List Instr} {m : Lists} {r : Result ValueRegister LowerFailure} → ty ≡ operand_type op own other → w ≡ constant_in ty own n →
      Adds (of_value (constant w ty from free l)) old new m r → Adds (of_value (as_type p s (operand_type op (emitted_type p s e) other) e from free free l)) old new m r
  left_constant own other (Tree.Constant n' t at) n from free l is et ew k =
      let parts : (n', t) ≡ (n, own) = ap (λ o. unwrap_or o (n', t)) is in
      let t_is = ap (λ (q : ℕ × Scalar). q.1) parts in
      let due = et ∙ (λ j. operand_type op (sym t_is j) other) in
      let word = ew ∙ (λ i. constant_in (due i) (sym t_is i) (sym (ap (λ (q : ℕ × Scalar). q.0) parts) i)) in
      same (λ j. of_value (constant (word j) (due j) from free l)) k
  left_constant own other e n from free l is et ew k = absurd (cc)

  pub left_converted : (other : Scalar) (e : Tree.Expr) (from free : ℕ) (l : Lists) → constant_of e ≡ None → {old mid new : List Instr} {l1 l2 : Lists} {h : ValueRegister} {ty : Scalar} {r : Result ValueRegister LowerFailure} → Adds (of_value (emit p s e from free free l)) old mid l1 (Ok h) → ty ≡ operand_type op h.ty other →
      Adds (of_value (converted_by (converting h.ty ty) ty (in_place h l1) free)) mid new l2 r → Adds (of_value (as_type p s (operand_type op (emitted_type p s e) other) e from free free l)) old new l2 r
  left_converted other e from free l none {ty = ty} k et m =
      let due = et ∙ (λ j. operand_type op ((ap (λ (x : ValueRegister). x.ty) k.end ∙ emitted_is p s e from free free l) j) other) in
      same (λ j. of_value (as_type p s (due j) e from free free l)) (due_there p s ty e from free free l none k m)
