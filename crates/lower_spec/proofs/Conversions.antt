-- What becomes of a word where its value is converted: nothing but between `long long` and a narrow type.
use Rattle.std.proofs.Common.{◌≡◌, ℕ, suc, ◌<◌, ◌^◌, ◌%◌, ◌+◌, ◌-◌, Bool, true, false, Option, Some, None, refl, sym, ap, ◌∙◌, subst, arith, eqb-true}
use Rattle.std.specs.Prelude.{pos, ◌-ℤ◌, ◌*ℤ◌, IfOk, ◌==◌, nat_lt, if◌then◌else◌, unsigned_abs}
use Rattle.std.specs.Int.{int_div_euclid, int_rem_euclid}
use Rattle.std.proofs.lemmas.Int.{ints}
use Rattle.std.proofs.lemmas.Bool.Decides.{nat_tests}
use Rattle.syntax.specs.declared.tree.BinaryOp.{BinaryOp}
use Rattle.syntax.specs.declared.tree.BinaryOp.TheVariants.{ShiftLeft, ShiftRight}
use Rattle.syntax.specs.Tree.{Scalar, Int, Unsigned, LongLong}
use Rattle.syntax.specs.Numbers.{modulus, residue, number, word_of, value_in_type, truth, common, fit_result, operation_result, operand_type, result_type}
use Rattle.syntax.proofs.words.Words.{narrows, widens_unsigned, fitted_below, shift_below, computed_below}
use Rattle.lower_spec.specs.Expressions.{converting, widening}

-- the word that one instruction makes of a register, or the register's own
abbrev pub conversion : (s u : Scalar) → ℕ → ℕ
conversion Int LongLong w = word_of LongLong (number Int w)
conversion LongLong Int w = residue Unsigned w
conversion LongLong Unsigned w = residue Unsigned w
conversion s u w = w

-- the word of a value in another type, by its own
pub conversions : (s u : Scalar) (w : ℕ) → w < modulus s → word_of u (number s w) ≡ conversion s u w
conversions Int Int w h = narrows Int Int w (omega arith) ∙ omega (arith, h)
conversions Int Unsigned w h = narrows Int Unsigned w (omega arith) ∙ omega (arith, h)
conversions Unsigned Int w h = narrows Unsigned Int w (omega arith) ∙ omega (arith, h)
conversions Unsigned Unsigned w h = narrows Unsigned Unsigned w (omega arith) ∙ omega (arith, h)
conversions LongLong LongLong w h = narrows LongLong LongLong w (omega arith) ∙ omega (arith, h)
conversions Int LongLong w h = refl
conversions LongLong Int w h = narrows LongLong Int w (omega arith)
conversions LongLong Unsigned w h = narrows LongLong Unsigned w (omega arith)
conversions Unsigned LongLong w h = widens_unsigned w ∙ omega (arith, h)

-- no instruction is asked for
abbrev pub IsNone : {A : Type 0} → Option A → Type 0
IsNone None = Unit {0}
IsNone (Some x) = ⊥

-- where none is, the word is the same
pub unconverted : (s u : Scalar) (w : ℕ) → w < modulus s → IsNone (converting s u) → word_of u (number s w) ≡ w
unconverted Int LongLong w h none = absurd none
unconverted LongLong Int w h none = absurd none
unconverted LongLong Unsigned w h none = absurd none
unconverted Int Int w h none = conversions Int Int w h
unconverted Int Unsigned w h none = conversions Int Unsigned w h
unconverted Unsigned Int w h none = conversions Unsigned Int w h
unconverted Unsigned Unsigned w h none = conversions Unsigned Unsigned w h
unconverted Unsigned LongLong w h none = conversions Unsigned LongLong w h
unconverted LongLong LongLong w h none = conversions LongLong LongLong w h

pub residue_same : (t : Scalar) (w : ℕ) → w < modulus t → residue t w ≡ w
residue_same Int w h = let e : w % (2 ^ 32) ≡ w = omega (arith, h) in e
residue_same Unsigned w h = let e : w % (2 ^ 32) ≡ w = omega (arith, h) in e
residue_same LongLong w h = let e : w % (2 ^ 64) ≡ w = omega (arith, h) in e

-- a cell takes the residue, which is the word of the value in the cell's type where no instruction is asked for
unwidened : (w : ℕ) → w < 2 ^ 32 → w % (2 ^ 32) ≡ w % (2 ^ 64)
unwidened w h = omega (arith, h)

pub cell_residue : (s t : Scalar) (w : ℕ) → w < modulus s → IsNone (widening s t) → word_of t (number s w) ≡ residue t w
cell_residue Int LongLong w h none = absurd none
cell_residue Int Int w h none = narrows Int Int w (omega arith)
cell_residue Int Unsigned w h none = narrows Int Unsigned w (omega arith)
cell_residue Unsigned Int w h none = narrows Unsigned Int w (omega arith)
cell_residue Unsigned Unsigned w h none = narrows Unsigned Unsigned w (omega arith)
cell_residue Unsigned LongLong w h none = widens_unsigned w ∙ unwidened w h
cell_residue LongLong Int w h none = narrows LongLong Int w (omega arith)
cell_residue LongLong Unsigned w h none = narrows LongLong Unsigned w (omega arith)
cell_residue LongLong LongLong w h none = narrows LongLong LongLong w (omega arith)

-- each type has the words 0 and 1
pub truth_under : (t : Scalar) (b : Bool) → truth b < modulus t
truth_under Int true = omega arith
truth_under Int false = omega arith
truth_under Unsigned true = omega arith
truth_under Unsigned false = omega arith
truth_under LongLong true = omega arith
truth_under LongLong false = omega arith

pub truth_converted : (t u : Scalar) (b : Bool) → value_in_type u (record { ty = t; word = truth b }) ≡ record { ty = u; word = truth b }
truth_converted Int Int false = refl
truth_converted Int Int true = refl
truth_converted Int Unsigned false = refl
truth_converted Int Unsigned true = refl
truth_converted Int LongLong false = refl
truth_converted Int LongLong true = refl
truth_converted Unsigned Int false = refl
truth_converted Unsigned Int true = refl
truth_converted Unsigned Unsigned false = refl
truth_converted Unsigned Unsigned true = refl
truth_converted Unsigned LongLong false = refl
truth_converted Unsigned LongLong true = refl
truth_converted LongLong Int false = refl
truth_converted LongLong Int true = refl
truth_converted LongLong Unsigned false = refl
truth_converted LongLong Unsigned true = refl
truth_converted LongLong LongLong false = refl
truth_converted LongLong LongLong true = refl

-- a constant 0 has the word 0 in each type
pub zero_in : (u t : Scalar) → word_of u (number t (word_of t (pos 0))) ≡ 0
zero_in Int Int = refl
zero_in Int Unsigned = refl
zero_in Int LongLong = refl
zero_in Unsigned Int = refl
zero_in Unsigned Unsigned = refl
zero_in Unsigned LongLong = refl
zero_in LongLong Int = refl
zero_in LongLong Unsigned = refl
zero_in LongLong LongLong = refl

-- where the sign is extended, 0 alone becomes 0
positive_in : (r : ℕ) → r < 2 ^ 32 → unsigned_abs (int_rem_euclid (pos r) (pos (2 ^ 64))) ≡ r
positive_in r h = omega arith

negative_in : (r : ℕ) → r < 2 ^ 32 → unsigned_abs (int_rem_euclid (pos r -ℤ pos (2 ^ 32)) (pos (2 ^ 64))) ≡ r + (2 ^ 64 - 2 ^ 32)
negative_in r h = grind (arith, ints, h)

not_zero : (w : ℕ) → 0 < w → (w == 0) ≡ false
not_zero w h = by (w == 0) refl
  where
    by : (b : Bool) → (w == 0) ≡ b → (w == 0) ≡ false
    by true e = let z : w ≡ 0 = eqb-true w 0 e in absurd (omega (arith, h, z))
    by false e = e

extended_zero : (b : Bool) (r : ℕ) → r < 2 ^ 32 → nat_lt r (2 ^ 31) ≡ b → (unsigned_abs (int_rem_euclid (if b then pos r else pos r -ℤ pos (2 ^ 32)) (pos (2 ^ 64))) == 0) ≡ (r == 0)
extended_zero true r h e = ap (λ w. w == 0) (positive_in r h)
extended_zero false r h e =
    let large : 2 ^ 31 < suc r = grind (arith, nat_tests, e) in
    let n = negative_in r h in
    not_zero _ (omega (arith, n)) ∙ sym (not_zero r (omega (arith, large)))

same_zero : (w z : ℕ) → w ≡ z → (w == 0) ≡ (z == 0)
same_zero w z e = ap (λ x. x == 0) e

-- so that a comparison with 0 may ask the value itself
pub zero_preserved : (s t : Scalar) (w : ℕ) → w < modulus s → (word_of (common s t) (number s w) == 0) ≡ (w == 0)
zero_preserved Int Int w h = same_zero _ w (conversions Int Int w h)
zero_preserved Int Unsigned w h = same_zero _ w (conversions Int Unsigned w h)
zero_preserved Int LongLong w h =
    extended_zero (nat_lt (w % 2 ^ 32) (2 ^ 31)) (w % 2 ^ 32) (omega arith) refl ∙ same_zero _ w (residue_same Int w h)
zero_preserved Unsigned Int w h = same_zero _ w (conversions Unsigned Unsigned w h)
zero_preserved Unsigned Unsigned w h = same_zero _ w (conversions Unsigned Unsigned w h)
zero_preserved Unsigned LongLong w h = same_zero _ w (conversions Unsigned LongLong w h)
zero_preserved LongLong Int w h = same_zero _ w (conversions LongLong LongLong w h)
zero_preserved LongLong Unsigned w h = same_zero _ w (conversions LongLong LongLong w h)
zero_preserved LongLong LongLong w h = same_zero _ w (conversions LongLong LongLong w h)

-- an operator on words of the types in which its operands are due
common_turned : (s t : Scalar) → common s t ≡ common t s
common_turned Int Int = refl
common_turned Int Unsigned = refl
common_turned Int LongLong = refl
common_turned Unsigned Int = refl
common_turned Unsigned Unsigned = refl
common_turned Unsigned LongLong = refl
common_turned LongLong Int = refl
common_turned LongLong Unsigned = refl
common_turned LongLong LongLong = refl

pub operated_below : (op : BinaryOp) (s t : Scalar) (a b : ℕ) → a < modulus (operand_type op s t) → b < modulus (operand_type op t s) → IfOk (operation_result op (operand_type op s t) a b) (λ w. w < modulus (result_type op (operand_type op s t)))
operated_below ShiftLeft s t a b g h = shift_below s (λ k. fit_result s (number s a *ℤ pos (2 ^ k))) b (λ k. fitted_below s (number s a *ℤ pos (2 ^ k)))
operated_below ShiftRight s t a b g h = shift_below s (λ k. fit_result s (int_div_euclid (number s a) (pos (2 ^ k)))) b (λ k. fitted_below s (int_div_euclid (number s a) (pos (2 ^ k))))
operated_below op s t a b g h = computed_below op (common s t) a b g (subst (λ u. b < modulus u) (common_turned t s) h)
