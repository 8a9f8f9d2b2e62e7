-- What is emitted stands for an expression, part by part.
use Rattle.std.proofs.Common.{◌≡◌, refl, sym, subst, ℕ, suc, ◌+◌, ◌≤◌, ◌<◌, List, [], ◌∷◌, ◌++◌, length, arith, Option, Some, None, Bool, true, false, ◌⊎◌, inl, inr, ⊎_elim, eqb-true}
use Rattle.std.specs.Prelude.{if◌then◌else◌, ◌==◌, option_map}
use Rattle.std.proofs.lemmas.Bool.{eqb-false}
use Rattle.std.proofs.lemmas.List.{length-append}
use Rattle.lex.specs.declared.token.Scalar.{Scalar}
use Rattle.lex.specs.declared.token.Scalar.TheVariants.{Int, Unsigned, LongLong}
use Rattle.syntax.specs.declared.tree.BinaryOp.{BinaryOp}
use Rattle.syntax.specs.declared.tree.BinaryOp.TheVariants.{Equal}
use Rattle.syntax.specs.Tree.{Expr, Constant}
use Rattle.syntax.specs.Numbers.{operand_type, result_type}
use Rattle.syntax.specs.Names.{GlobalCells, cells}
use Rattle.bytecode.specs.declared.instr.Instr.{Instr}
use Rattle.bytecode.specs.declared.instr.Instr.TheVariants as own
use Rattle.bytecode.specs.Code.{Code, Instr as Plain}
use Rattle.bytecode.specs.Views.{instr_of}
use Rattle.lower_spec.specs.Expressions as Lowered
use Rattle.lower_spec.specs.Expressions.{Coded, Due, Layout, MayTake, constant_in, GivenBy, Converts, ConvertedCode, DueCode, TypedCode, LocalIs, WordCode, OperandCode, VariableCode, ElementCode, CastCode, ValueTransactionCode, UnaryCode, NotCode, BinaryCode, MovedCode, BranchCode, HandedCode}
use Rattle.selection.specs.Lists.{Lists, with_register}
use Rattle.selection.specs.Expressions.{negating, complementing, Emitted, above, one, then_one, constant, preloaded_from, preloaded, preloaded_constant, preloaded_or, in_local, converting, converted_by, in_type, in_first_type, in_own_transaction, negation, complement, logical_negation, both, value_into}
use Rattle.selection.proofs.stands.Standing.{Stand, front, behind, Grows, grows_same, grows_further, grows_used, max_left, max_right, Fits, fits_before, is_register, given}

-- operators of one operand have the instructions of the relation
pub negating_is : (arguments : List ℕ) (t : Scalar) (d a : ℕ) → instr_of arguments (negating t d a) ≡ Plain.Negate t d a
negating_is arguments Int d a = refl
negating_is arguments Unsigned d a = refl
negating_is arguments LongLong d a = refl

pub complementing_is : (arguments : List ℕ) (t : Scalar) (d a : ℕ) → instr_of arguments (complementing t d a) ≡ Lowered.complementing t d a
complementing_is arguments Int d a = refl
complementing_is arguments Unsigned d a = refl
complementing_is arguments LongLong d a = refl

pub above_free : (free r : ℕ) → free ≤ above free r
above_free free r = max_left free (suc r)

pub above_it : (free r : ℕ) → r < above free r
above_it free r = let h = max_right free (suc r) in omega (arith, h)

module _ (code : Code) (arguments : List ℕ) (layout : Layout) where
  -- what is emitted from a place on, with these lists before it, stands for a part
  pub record Emits (A : Coded) (from free : ℕ) (l : Lists) (e : Emitted) : Type 0 where
    pub to_is : e.location.to ≡ from + length e.code
    pub grows : Grows l e.lists
    pub stands : Fits code arguments layout e.lists → Stand code arguments from e.code → A from e.location.to free e.location.register e.location.ty

  pub one_emits : (home : Option ℕ) (f : ℕ → Plain) (i : Instr) (u : Scalar) (from free into : ℕ) (l : Lists) → f into ≡ instr_of arguments i → MayTake home free into →
      Emits (λ from to free r t. GivenBy code layout home (f r) u from to free r t) from free l (one i from into u l)
  one_emits home f i u from free into l e m = record {
    to_is = omega arith;
    grows = grows_used l l into (grows_same l);
    stands = λ g st. subst (λ j. GivenBy code layout home j u from (from + 1) free into u) (sym e)
        (given code arguments layout home i u from (from + 1) free into (omega arith) m (is_register code arguments layout l into g) st.0);
  }

  pub in_local_emits : (locals i : ℕ) (t : Scalar) (from free : ℕ) (l : Lists) → i < locals → Emits (λ from to free r t'. LocalIs code layout locals (i, t) from to r t') from free l (in_local i t from l)
  in_local_emits locals i t from free l h = record {
    to_is = omega arith;
    grows = grows_used l l i (grows_same l);
    stands = λ f st. record { known = h; to_is = refl; register = refl; type_is = refl };
  }

  -- one more instruction behind a value
  pub then_emits : (A B : Coded) (home : Option ℕ) (i : Instr) (t : Scalar) (from free into : ℕ) (l : Lists) (e : Emitted) → Emits A from free l e → MayTake home free into →
      (A from e.location.to free e.location.register e.location.ty → GivenBy code layout home (instr_of arguments i) t e.location.to (e.location.to + 1) free into t → B from (e.location.to + 1) free into t) →
      Emits B from free l (then_one e i into t)
  then_emits A B home i t from free into l e h m make = record {
    to_is = let a = h.to_is in let b : length (e.code ++ i ∷ []) ≡ length e.code + 1 = length-append e.code (i ∷ []) in omega (arith, a, b);
    grows = grows_used l e.lists into h.grows;
    stands = λ f st.
        let at = (behind code arguments from e.location.to e.code (i ∷ []) h.to_is st).0 in
        make (h.stands (fits_before code arguments layout e.lists (with_register into e.lists) (grows_used e.lists e.lists into (grows_same e.lists)) f) (front code arguments from e.code (i ∷ []) st))
        (given code arguments layout home i t e.location.to (e.location.to + 1) free into (omega arith) m (is_register code arguments layout e.lists into f) at);
  }

  pub element_emits : (home : Option ℕ) (g : GlobalCells) (A : Coded) (from free into : ℕ) (l : Lists) (e : Emitted) → Emits A from free l e → MayTake home free into →
      Emits (ElementCode code layout home g A) from free l (then_one e (own.ReadAt into e.location.register g.cell (cells g.global)) into g.global.ty)
  element_emits home g A from free into l e h m =
      then_emits A (ElementCode code layout home g A) home (own.ReadAt into e.location.register g.cell (cells g.global)) g.global.ty from free into l e h m
      (λ a b. record { mid = e.location.to; ri = e.location.register; ti = e.location.ty; computes = a; reads = b })

  -- a value that is the same in the type that is due
  remains : (home : Option ℕ) (A : Coded) (s u : Scalar) (from free : ℕ) (l : Lists) (e : Emitted) → Emits A from free l e → e.location.ty ≡ s → Converts code layout home s u e.location.register e.location.to e.location.to free e.location.register →
      Emits (λ from to free r x. ConvertedCode code layout home A u from to free r s) from free l (converted_by None u e 0)
  remains home A s u from free l e h q c = record {
    to_is = h.to_is;
    grows = h.grows;
    stands = λ f st. record { mid = e.location.to; ra = e.location.register; computes = subst (λ x. A from e.location.to free e.location.register x) q (h.stands f st); converts = c };
  }

  -- a value by a conversion
  pub converted_emits : (home : Option ℕ) (A : Coded) (s u : Scalar) (from free into : ℕ) (l : Lists) (e : Emitted) → Emits A from free l e → e.location.ty ≡ s → MayTake home free into →
      Emits (λ from to free r x. ConvertedCode code layout home A u from to free r s) from free l (converted_by (converting s u) u e into)
  converted_emits home A Int LongLong from free into l e h q m =
      then_emits A (λ from to free r x. ConvertedCode code layout home A LongLong from to free r Int) home (own.Extend into e.location.register) LongLong from free into l e h m
      (λ a b. record { mid = e.location.to; ra = e.location.register; computes = subst (λ x. A from e.location.to free e.location.register x) q a; converts = b })
  converted_emits home A LongLong Int from free into l e h q m =
      then_emits A (λ from to free r x. ConvertedCode code layout home A Int from to free r LongLong) home (own.Low into e.location.register) Int from free into l e h m
      (λ a b. record { mid = e.location.to; ra = e.location.register; computes = subst (λ x. A from e.location.to free e.location.register x) q a; converts = b })
  converted_emits home A LongLong Unsigned from free into l e h q m =
      then_emits A (λ from to free r x. ConvertedCode code layout home A Unsigned from to free r LongLong) home (own.Low into e.location.register) Unsigned from free into l e h m
      (λ a b. record { mid = e.location.to; ra = e.location.register; computes = subst (λ x. A from e.location.to free e.location.register x) q a; converts = b })
  converted_emits home A s u from free into l e h q m = remains home A s u from free l e h q (refl, refl)

  -- a value that did not come into the register that was asked for lies in a local's own
  converted_elsewhere : (A : Coded) (s u : Scalar) (from free into : ℕ) (l : Lists) (e : Emitted) → (Emits A from free l e ⊎ (e.location.register ≡ into)) → e.location.ty ≡ s →
      Emits (λ from to free r x. ConvertedCode code layout None A u from to free r s) from free l (converted_by (converting s u) u e into) ⊎ ((converted_by (converting s u) u e into).location.register ≡ into)
  converted_elsewhere A Int LongLong from free into l e h q = inr refl
  converted_elsewhere A LongLong Int from free into l e h q = inr refl
  converted_elsewhere A LongLong Unsigned from free into l e h q = inr refl
  converted_elsewhere A s u from free into l e h q = ⊎_elim (λ g. inl (remains None A s u from free l e g q (refl, refl))) (λ k. inr k) h

  -- of a constant the type is its own
  abbrev pub OwnIs : Expr → Scalar → Type 0
  OwnIs (Constant n t at) s = s ≡ t
  OwnIs e s = Unit {0}

  -- an expression's value in the type that is due
  pub in_type_emits : (home : Option ℕ) (e' : Expr) (A : Coded) (s u : Scalar) (from free into : ℕ) (l : Lists) (e : Emitted) → Emits A from free l e → e.location.ty ≡ s → OwnIs e' s → MayTake home free into →
      Emits (λ from to free r x. DueCode code layout home e' A u from to free r s) from free l (in_type s u e' e from into l)
  in_type_emits home (Constant n t at) A s u from free into l e h q o m =
      let g = one_emits home (λ r. Plain.Constant r (constant_in u t n)) (own.Constant into (constant_in u t n)) u from free into l refl m in
      record { to_is = g.to_is; grows = g.grows; stands = λ f st. (o, g.stands f st) }
  in_type_emits home e' A s u from free into l e h q o m = converted_emits home A s u from free into l e h q m

  pub in_type_elsewhere : (e' : Expr) (A : Coded) (s u : Scalar) (from free into : ℕ) (l : Lists) (e : Emitted) → (Emits A from free l e ⊎ (e.location.register ≡ into)) → e.location.ty ≡ s →
      Emits (λ from to free r x. DueCode code layout None e' A u from to free r s) from free l (in_type s u e' e from into l) ⊎ ((in_type s u e' e from into l).location.register ≡ into)
  in_type_elsewhere (Constant n t at) A s u from free into l e h q = inr refl
  in_type_elsewhere e' A s u from free into l e h q = converted_elsewhere A s u from free into l e h q

  -- whatever its own type is
  pub typed_emits : (home : Option ℕ) (e' : Expr) (A : Coded) (s u : Scalar) (from free : ℕ) (l : Lists) (e : Emitted) → Emits (λ from to free r x. DueCode code layout home e' A u from to free r s) from free l e →
      Emits (λ from to free r x. TypedCode code layout home e' A u from to free r) from free l e
  typed_emits home e' A s u from free l e h = record { to_is = h.to_is; grows = h.grows; stands = λ f st. (s, h.stands f st) }

  pub cast_emits : (home : Option ℕ) (e' : Expr) (A : Coded) (s u : Scalar) (from free : ℕ) (l : Lists) (e : Emitted) → e.location.ty ≡ u → Emits (λ from to free r x. DueCode code layout home e' A u from to free r s) from free l e →
      Emits (CastCode code layout home e' A u) from free l e
  cast_emits home e' A s u from free l e k h = record { to_is = h.to_is; grows = h.grows; stands = λ f st. (k, (s, h.stands f st)) }

  -- the first of several values
  pub in_first_emits : (ts : List Scalar) (e' : Expr) (A : Coded) (s : Scalar) (from free : ℕ) (l : Lists) (e : Emitted) → Emits A from free l e → e.location.ty ≡ s → OwnIs e' s →
      Emits (λ from to free r x. HandedCode code layout ts e' A from to free r) from free l (in_first_type s ts e' e from free l)
  in_first_emits [] e' A s from free l e h q o = record { to_is = h.to_is; grows = h.grows; stands = λ f st. (e.location.ty, h.stands f st) }
  in_first_emits (u ∷ us) e' A s from free l e h q o =
      typed_emits None e' A s u from free l (in_type s u e' e from free l) (in_type_emits None e' A s u from free free l e h q o (omega arith))

  pub in_own_emits : (A : Coded) (from free : ℕ) (l : Lists) (e : Emitted) → Emits A (from + 1) free l e → Emits (ValueTransactionCode code layout A) from free l (in_own_transaction e)
  in_own_emits A from free l e h =
      let begin : Instr = own.Begin (e.location.to + 1) in
      let x = h.to_is in
      let next : from + 1 ≡ suc from = omega arith in
      let mid_is : e.location.to ≡ suc from + length e.code = omega (arith, x) in
      record {
        to_is = let u : length (begin ∷ e.code ++ own.Commit ∷ []) ≡ length (begin ∷ e.code) + 1 = length-append (begin ∷ e.code) (own.Commit ∷ []) in omega (arith, x, u);
        grows = h.grows;
        stands = λ f st.
            let inner = front code arguments (suc from) e.code (own.Commit ∷ []) st.1 in
            record {
              last = e.location.to;
              begins = st.0;
              computes = subst (λ q. A q e.location.to free e.location.register e.location.ty) next (h.stands f (subst (λ q. Stand code arguments q e.code) (sym next) inner));
              commits = (behind code arguments (suc from) e.location.to e.code (own.Commit ∷ []) mid_is st.1).0;
              to_is = omega arith;
            };
      }

  pub negated_emits : (home : Option ℕ) (A : Coded) (from free into : ℕ) (l : Lists) (e : Emitted) → Emits A from free l e → MayTake home free into →
      Emits (λ from to free r t. UnaryCode code layout home (λ ta ra. Plain.Negate ta r ra) A from to free r t) from free l (negation e into)
  negated_emits home A from free into l e h m =
      then_emits A (λ from to free r t. UnaryCode code layout home (λ ta ra. Plain.Negate ta r ra) A from to free r t) home (negating e.location.ty into e.location.register) e.location.ty from free into l e h m
      (λ a b. record {
        mid = e.location.to;
        ra = e.location.register;
        ta = e.location.ty;
        computes = a;
        operates = subst (λ i. GivenBy code layout home i e.location.ty e.location.to (e.location.to + 1) free into e.location.ty) (negating_is arguments e.location.ty into e.location.register) b;
      })

  pub complemented_emits : (home : Option ℕ) (A : Coded) (from free into : ℕ) (l : Lists) (e : Emitted) → Emits A from free l e → MayTake home free into →
      Emits (λ from to free r t. UnaryCode code layout home (λ ta ra. Lowered.complementing ta r ra) A from to free r t) from free l (complement e into)
  complemented_emits home A from free into l e h m =
      then_emits A (λ from to free r t. UnaryCode code layout home (λ ta ra. Lowered.complementing ta r ra) A from to free r t) home (complementing e.location.ty into e.location.register) e.location.ty from free into l e h m
      (λ a b. record {
        mid = e.location.to;
        ra = e.location.register;
        ta = e.location.ty;
        computes = a;
        operates = subst (λ i. GivenBy code layout home i e.location.ty e.location.to (e.location.to + 1) free into e.location.ty) (complementing_is arguments e.location.ty into e.location.register) b;
      })

  pub compared_emits : (home : Option ℕ) (A : Coded) (from free into : ℕ) (l : Lists) (e : Emitted) → Emits A from free l e → MayTake home free into →
      Emits (NotCode code layout home A) from free l (logical_negation e into free)
  compared_emits home A from free into l e h m =
      let rz : ℕ = above free e.location.register in
      let zero : Instr = own.Constant rz 0 in
      let equal : Instr = own.Compute Equal Unsigned into e.location.register rz in
      let lists : Lists = with_register rz e.lists in
      record {
        to_is = let a = h.to_is in let b : length (e.code ++ zero ∷ equal ∷ []) ≡ length e.code + 2 = length-append e.code (zero ∷ equal ∷ []) in omega (arith, a, b);
        grows = grows_used l lists into (grows_used l e.lists rz h.grows);
        stands = λ f st.
            let both = behind code arguments from e.location.to e.code (zero ∷ equal ∷ []) h.to_is st in
            let inner = fits_before code arguments layout lists (with_register into lists) (grows_used lists lists into (grows_same lists)) f in
            record {
              mid = e.location.to;
              ra = e.location.register;
              ta = e.location.ty;
              rz = rz;
              computes = h.stands (fits_before code arguments layout e.lists lists (grows_used e.lists e.lists rz (grows_same e.lists)) inner) (front code arguments from e.code (zero ∷ equal ∷ []) st);
              apart = above_it free e.location.register;
              zeroes = given code arguments layout None zero Int e.location.to (suc e.location.to) free rz refl (above_free free e.location.register) (is_register code arguments layout e.lists rz inner) both.0;
              compares = given code arguments layout home equal Int (suc e.location.to) (e.location.to + 2) free into (omega arith) m (is_register code arguments layout lists into f) both.1.0;
            };
      }

  -- a word that is preloaded, or else is set
  pub word_emits : (w : ℕ) (u : Scalar) (from free : ℕ) (l : Lists) →
      Emits (λ from to free r x. WordCode code layout w u from to free r) from free l (preloaded_or (preloaded l.layout w u from) l (constant w u from free l))
  word_emits w u from free l = by (preloaded_from l.layout.writable l.layout.constants w) refl
    where
      by : (o : Option ℕ) → preloaded_from l.layout.writable l.layout.constants w ≡ o →
          Emits (λ from to free r x. WordCode code layout w u from to free r) from free l (preloaded_or (option_map (λ r. record { register = r; ty = u; to = from }) o) l (constant w u from free l))
      by None n =
          let g = one_emits None (λ r. Plain.Constant r w) (own.Constant free w) u from free free l refl (omega arith) in
          record { to_is = g.to_is; grows = g.grows; stands = λ f st. inl (g.stands f st) }
      by (Some r) n = record {
        to_is = omega arith;
        grows = grows_same l;
        stands = λ f st. inr (let k = f.preloaded w r n in record { number = k.number; known = k.known; to_is = refl; register = k.register; type_is = refl });
      }

  -- the right side of an operator, and its left side
  pub operand_emits : (b : Expr) (A : Coded) (s u : Scalar) (from free : ℕ) (l : Lists) (e : Emitted) → Emits A from free l e → e.location.ty ≡ s → OwnIs b s →
      Emits (λ from to free r x. OperandCode code layout b A u from to free r s) from free l (preloaded_or (preloaded_constant l.layout u b from) l (in_type s u b e from free l))
  operand_emits (Constant n t at) A s u from free l e h q o =
      let g = word_emits (constant_in u t n) u from free l in
      record { to_is = g.to_is; grows = g.grows; stands = λ f st. (o, g.stands f st) }
  operand_emits b A s u from free l e h q o = converted_emits None A s u from free free l e h q (omega arith)

  pub left_emits : (a : Expr) (A : Coded) (s u : Scalar) (from free : ℕ) (l : Lists) (e : Emitted) → Emits A from free l e → e.location.ty ≡ s → OwnIs a s →
      Emits (λ from to free r x. OperandCode code layout a A u from to free r s) from free l (in_type s u a e from free l)
  left_emits (Constant n t at) A s u from free l e h q o =
      let g = one_emits None (λ r. Plain.Constant r (constant_in u t n)) (own.Constant free (constant_in u t n)) u from free free l refl (omega arith) in
      record { to_is = g.to_is; grows = g.grows; stands = λ f st. (o, inl (g.stands f st)) }
  left_emits a A s u from free l e h q o = converted_emits None A s u from free free l e h q (omega arith)

  pub both_emits : (home : Option ℕ) (op : BinaryOp) (A B : Due) (ta tb : Scalar) (from free into : ℕ) (l : Lists) (a b : Emitted) → Emits (λ from to free r x. A (operand_type op ta tb) from to free r ta) from free l a →
      Emits (λ from to free r x. B (operand_type op tb ta) from to free r tb) a.location.to (above free a.location.register) a.lists b → MayTake home free into →
      Emits (BinaryCode code layout home op A B) from free l (both op (operand_type op ta tb) a b into)
  both_emits home op A B ta tb from free into l a b h g m =
      let t : Scalar = operand_type op ta tb in
      let i : Instr = own.Compute op t into a.location.register b.location.register in
      let two : length (a.code ++ b.code) ≡ length a.code + length b.code = length-append a.code b.code in
      let last_is : b.location.to ≡ from + length (a.code ++ b.code) = (let x = h.to_is in let y = g.to_is in omega (arith, x, y, two)) in
      record {
        to_is = let u : length (a.code ++ b.code ++ i ∷ []) ≡ length (a.code ++ b.code) + 1 = length-append (a.code ++ b.code) (i ∷ []) in omega (arith, last_is, u);
        grows = grows_used l b.lists into (grows_further l a.lists b.lists h.grows g.grows);
        stands = λ f st.
            let first = front code arguments from (a.code ++ b.code) (i ∷ []) st in
            let last = behind code arguments from b.location.to (a.code ++ b.code) (i ∷ []) last_is st in
            let inner = fits_before code arguments layout b.lists (with_register into b.lists) (grows_used b.lists b.lists into (grows_same b.lists)) f in
            record {
              mid = a.location.to;
              last = b.location.to;
              later = above free a.location.register;
              ra = a.location.register;
              rb = b.location.register;
              ta = ta;
              tb = tb;
              left = h.stands (fits_before code arguments layout a.lists b.lists g.grows inner) (front code arguments from a.code b.code first);
              is_above = above_free free a.location.register;
              apart = inl (above_it free a.location.register);
              right = g.stands inner (behind code arguments from a.location.to a.code b.code h.to_is first);
              operates = given code arguments layout home i (result_type op t) b.location.to (b.location.to + 1) free into (omega arith) m (is_register code arguments layout b.lists into f) last.0;
            };
      }

  -- a value in this very register: it came there, or it is moved
  pub into_emits : (home : Option ℕ) (e' : Expr) (A : Option ℕ → Coded) (t : Scalar) (from into free : ℕ) (l : Lists) (e : Emitted) → Emits (λ from to free r x. TypedCode code layout home e' (A home) t from to free r) from free l e →
      (Emits (λ from to free r x. TypedCode code layout None e' (A None) t from to free r) from free l e ⊎ (e.location.register ≡ into)) → MayTake home free into →
      Emits (λ from to free r x. BranchCode code layout home e' A from to free into t) from free l (value_into into e)
  into_emits home e' A t from into free l e h o m = by (e.location.register == into) refl
    where
      there : e.location.register ≡ into → Emits (λ from to free r x. BranchCode code layout home e' A from to free into t) from free l e
      there same = record {
        to_is = h.to_is;
        grows = h.grows;
        stands = λ f st. inl (subst (λ r. TypedCode code layout home e' (A home) t from e.location.to free r) same (h.stands f st));
      }

      moved : Emits (λ from to free r x. TypedCode code layout None e' (A None) t from to free r) from free l e → Emits (λ from to free r x. BranchCode code layout home e' A from to free into t) from free l (then_one e (own.Move into e.location.register) into e.location.ty)
      moved g =
          then_emits (λ from to free r x. TypedCode code layout None e' (A None) t from to free r) (λ from to free r x. BranchCode code layout home e' A from to free into t) home (own.Move into e.location.register) e.location.ty from free into l e g m
          (λ a b. inr (record { mid = e.location.to; rc = e.location.register; computes = a; moves = record { to_is = b.to_is; takes = b.takes; register = b.register; type_is = refl; instr = b.instr } }))

      by : (b : Bool) → (e.location.register == into) ≡ b → Emits (λ from to free r x. BranchCode code layout home e' A from to free into t) from free l (if b then e else then_one e (own.Move into e.location.register) into e.location.ty)
      by true n = there (eqb-true e.location.register into n)
      by false n = ⊎_elim moved (λ same. absurd (eqb-false e.location.register into n same)) o
