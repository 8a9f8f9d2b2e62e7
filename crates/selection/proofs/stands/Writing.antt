-- What is picked for an assignment goes to its target, part by part.
use Rattle.std.proofs.Common.{◌≡◌, refl, sym, ap, subst, ℕ, suc, ◌+◌, ◌≤◌, List, ◌++◌, length, arith, Some, None, Bool, true, false, inl, inr, eqb-true}
use Rattle.std.specs.Prelude.{if◌then◌else◌, ◌==◌}
use Rattle.std.proofs.lemmas.List.{length-append}
use Rattle.lex.specs.declared.token.Scalar.{Scalar}
use Rattle.lex.specs.declared.token.Scalar.TheVariants.{Int, LongLong}
use Rattle.syntax.specs.Tree.{Expr, Constant, Program}
use Rattle.syntax.specs.Names.{cells}
use Rattle.bytecode.specs.declared.instr.Instr.{Instr}
use Rattle.bytecode.specs.declared.instr.Instr.TheVariants as own
use Rattle.bytecode.specs.Code.{Code, Instr as Plain}
use Rattle.bytecode.specs.Views.{instr_of}
use Rattle.lower_spec.specs.Expressions.{LocalScope, Coded, Layout, InstructionAt, MayTake, constant_in, widening as lowered_widening, GivenBy, ConvertedBy, ExprCode}
use Rattle.lower_spec.specs.Statements.{Target, LocalAt, CellAt, ElementOf, home_of, target_type, due as due_at, Spares, FetchCode, StoreCode, WordStored, ExprStored}
use Rattle.selection.specs.declared.locations.AssignmentTarget.{AssignmentTarget as OwnTarget}
use Rattle.selection.specs.declared.locations.AssignmentTarget.TheVariants as target
use Rattle.selection.specs.Lists.{Lists}
use Rattle.selection.specs.Expressions.{Emitted, constant, converted_by}
use Rattle.selection.specs.Simples.{Written, nothing_written, above_target, target_value, home_or, one_written, target_store, widening, fitting, expr_fitting, and_then, code_of_value, then_stored}
use Rattle.selection.proofs.stands.Standing.{Stand, front, behind, Grows, grows_same, grows_further, Fits, fits_before}
use Rattle.selection.proofs.stands.Emitting.{above_free, above_it, Emits, one_emits, then_emits, converted_emits, in_local_emits}

-- a target as the generator keeps it
abbrev pub own_of : Target → OwnTarget
own_of (LocalAt l) = target.Local l.0 l.1
own_of (CellAt g) = target.Cell g.cell g.global.ty
own_of (ElementOf g ri) = target.Element ri g.cell (cells g.global) g.global.ty

pub spares : (t : Target) (free : ℕ) → Spares t (above_target (own_of t) free)
spares (LocalAt l) free = tt
spares (CellAt g) free = tt
spares (ElementOf g ri) free = above_it free ri

pub target_above : (t : Target) (free : ℕ) → free ≤ above_target (own_of t) free
target_above (LocalAt l) free = omega arith
target_above (CellAt g) free = omega arith
target_above (ElementOf g ri) free = above_free free ri

pub may_take_home : (t : Target) (free : ℕ) → MayTake (home_of t) free (home_or (own_of t) free)
may_take_home (LocalAt l) free = inr refl
may_take_home (CellAt g) free = omega arith
may_take_home (ElementOf g ri) free = omega arith

module _ (p : Program) (code : Code) (arguments : List ℕ) (layout : Layout) where
  -- what is written from a place on stands for a part
  pub record Writes (A : ℕ → ℕ → Type 0) (from : ℕ) (l : Lists) (w : Written) : Type 0 where
    pub to_is : w.to ≡ from + length w.code
    pub grows : Grows l w.lists
    pub stands : Fits code arguments layout w.lists → Stand code arguments from w.code → A from w.to

  pub nothing_writes : (from : ℕ) (l : Lists) → Writes (λ from to. to ≡ from) from l (nothing_written from l)
  nothing_writes from l = record { to_is = omega arith; grows = grows_same l; stands = λ f st. refl }

  pub one_writes : (A : ℕ → ℕ → Type 0) (i : Instr) (from : ℕ) (l : Lists) → (InstructionAt code from (instr_of arguments i) → A from (from + 1)) → Writes A from l (one_written i from l)
  one_writes A i from l make = record { to_is = omega arith; grows = grows_same l; stands = λ f st. make st.0 }

  pub writes_as : (A B : ℕ → ℕ → Type 0) (from : ℕ) (l : Lists) (w : Written) → Writes A from l w → (A from w.to → B from w.to) → Writes B from l w
  writes_as A B from l w h make = record { to_is = h.to_is; grows = h.grows; stands = λ f st. make (h.stands f st) }

  -- one part behind another
  pub then_writes : (A B C : ℕ → ℕ → Type 0) (from : ℕ) (l : Lists) (a b : Written) → Writes A from l a → Writes B a.to a.lists b → (A from a.to → B a.to b.to → C from b.to) → Writes C from l (and_then a b)
  then_writes A B C from l a b h g make = record {
    to_is = let x = h.to_is in let y = g.to_is in let u : length (a.code ++ b.code) ≡ length a.code + length b.code = length-append a.code b.code in omega (arith, x, y, u);
    grows = grows_further l a.lists b.lists h.grows g.grows;
    stands = λ f st.
        make (h.stands (fits_before code arguments layout a.lists b.lists g.grows f) (front code arguments from a.code b.code st))
        (g.stands f (behind code arguments from a.to a.code b.code h.to_is st));
  }

  pub evaluated_writes : (A : Coded) (from free : ℕ) (l : Lists) (e : Emitted) → Emits code arguments layout A from free l e →
      Writes (λ from to. A from to free e.location.register e.location.ty) from l (code_of_value e)
  evaluated_writes A from free l e h = record { to_is = h.to_is; grows = h.grows; stands = h.stands }

  pub fetched_emits : (t : Target) (from free : ℕ) (l : Lists) → Emits code arguments layout (FetchCode code layout p t) from free l (target_value (own_of t) from free l)
  fetched_emits (LocalAt x) from free l =
      let h = in_local_emits code arguments layout (suc x.0) x.0 x.1 from free l (omega arith) in
      record { to_is = h.to_is; grows = h.grows; stands = λ f st. (refl, refl, refl) }
  fetched_emits (CellAt g) from free l = one_emits code arguments layout None (λ r. Plain.Read r g.cell) (own.Read free g.cell) g.global.ty from free free l refl (omega arith)
  fetched_emits (ElementOf g ri) from free l =
      one_emits code arguments layout None (λ r. Plain.ReadAt r g.cell (cells g.global) ri) (own.ReadAt free ri g.cell (cells g.global)) g.global.ty from free free l refl (omega arith)

  pub stored_writes : (t : Target) (r from : ℕ) (l : Lists) → Writes (λ from to. StoreCode code layout p t r from to) from l (target_store (own_of t) r from l)
  stored_writes (LocalAt x) r from l = by (r == x.0) refl
    where
      by : (b : Bool) → (r == x.0) ≡ b → Writes (λ from to. StoreCode code layout p (LocalAt x) r from to) from l (if b then nothing_written from l else one_written (own.Move x.0 r) from l)
      by true n = record { to_is = omega arith; grows = grows_same l; stands = λ f st. inr (refl, ap Some (sym (eqb-true r x.0 n))) }
      by false n = one_writes (λ from to. StoreCode code layout p (LocalAt x) r from to) (own.Move x.0 r) from l (λ at. inl (omega arith, at))
  stored_writes (CellAt g) r from l = one_writes (λ from to. StoreCode code layout p (CellAt g) r from to) (own.Write r g.cell) from l (λ at. inl (omega arith, at))
  stored_writes (ElementOf g ri) r from l =
      one_writes (λ from to. StoreCode code layout p (ElementOf g ri) r from to) (own.WriteAt ri r g.cell (cells g.global)) from l (λ at. inl (omega arith, at))

  -- a value, and where it is put
  pub record ValueStored (A : Coded) (free : ℕ) (t : Target) (from to : ℕ) : Type 0 where
    pub mid : ℕ
    pub r : ℕ
    pub ty : Scalar
    pub value : A from mid free r ty
    pub stores : StoreCode code layout p t r mid to

  pub then_stored_writes : (A : Coded) (t : Target) (from free : ℕ) (l : Lists) (e : Emitted) → Emits code arguments layout A from free l e → Writes (ValueStored A free t) from l (then_stored (own_of t) e)
  then_stored_writes A t from free l e h =
      then_writes (λ from to. A from to free e.location.register e.location.ty) (λ from to. StoreCode code layout p t e.location.register from to) (ValueStored A free t) from l (code_of_value e) (target_store (own_of t) e.location.register e.location.to e.lists)
      (evaluated_writes A from free l e h) (stored_writes t e.location.register e.location.to e.lists)
      (λ v s. record { mid = e.location.to; r = e.location.register; ty = e.location.ty; value = v; stores = s })

  -- a value in the type of its target
  pub record Fitted (A : Coded) (t : Target) (s : Scalar) (from to free r : ℕ) : Type 0 where
    pub mid : ℕ
    pub ra : ℕ
    pub value : A from mid free ra s
    pub converts : ConvertedBy code layout (due_at t s) (home_of t) (target_type t) ra mid to free r

  record Widened (A : Coded) (s u : Scalar) (from to free r : ℕ) : Type 0 where
    mid : ℕ
    ra : ℕ
    value : A from mid free ra s
    converts : ConvertedBy code layout (lowered_widening s u) None u ra mid to free r

  widened_emits : (A : Coded) (s u : Scalar) (from free into : ℕ) (l : Lists) (e : Emitted) → Emits code arguments layout A from free l e → e.location.ty ≡ s → free ≤ into →
      Emits code arguments layout (λ from to free r x. Widened A s u from to free r) from free l (converted_by (widening s u) u e into)
  widened_emits A Int LongLong from free into l e h q m =
      then_emits code arguments layout A (λ from to free r x. Widened A Int LongLong from to free r) None (own.Extend into e.location.register) LongLong from free into l e h m
      (λ a b. record { mid = e.location.to; ra = e.location.register; value = subst (λ x. A from e.location.to free e.location.register x) q a; converts = b })
  widened_emits A s u from free into l e h q m = record {
    to_is = h.to_is;
    grows = h.grows;
    stands = λ f st. record { mid = e.location.to; ra = e.location.register; value = subst (λ x. A from e.location.to free e.location.register x) q (h.stands f st); converts = (refl, refl) };
  }

  pub fitting_emits : (t : Target) (A : Coded) (s : Scalar) (from free : ℕ) (l : Lists) (e : Emitted) → Emits code arguments layout A from free l e → e.location.ty ≡ s →
      Emits code arguments layout (λ from to free r x. Fitted A t s from to free r) from free l (fitting (own_of t) s e (home_or (own_of t) free))
  fitting_emits (LocalAt y) A s from free l e h q =
      let g = converted_emits code arguments layout (Some y.0) A s y.1 from free y.0 l e h q (inr refl) in
      record { to_is = g.to_is; grows = g.grows; stands = λ f st. (let c = g.stands f st in record { mid = c.mid; ra = c.ra; value = c.computes; converts = c.converts }) }
  fitting_emits (CellAt y) A s from free l e h q =
      let g = widened_emits A s y.global.ty from free free l e h q (omega arith) in
      record { to_is = g.to_is; grows = g.grows; stands = λ f st. (let c = g.stands f st in record { mid = c.mid; ra = c.ra; value = c.value; converts = c.converts }) }
  fitting_emits (ElementOf y ri) A s from free l e h q =
      let g = widened_emits A s y.global.ty from free free l e h q (omega arith) in
      record { to_is = g.to_is; grows = g.grows; stands = λ f st. (let c = g.stands f st in record { mid = c.mid; ra = c.ra; value = c.value; converts = c.converts }) }

  -- a constant that is set in the type of its target, and goes there
  word_stored : (t : Target) (w : ℕ) (u : Scalar) → u ≡ target_type t → (from free : ℕ) (l : Lists) → Writes (λ from to. WordStored code layout p t w from to free) from l (then_stored (own_of t) (constant w u from (home_or (own_of t) free) l))
  word_stored t w u same from free l =
      let A : Coded = λ from to free r x. GivenBy code layout (home_of t) (Plain.Constant r w) u from to free r x in
      let made = constant w u from (home_or (own_of t) free) l in
      writes_as (ValueStored A free t) (λ from to. WordStored code layout p t w from to free) from l (then_stored (own_of t) made)
      (then_stored_writes A t from free l made (one_emits code arguments layout (home_of t) (λ r. Plain.Constant r w) (own.Constant (home_or (own_of t) free) w) u from free (home_or (own_of t) free) l refl (may_take_home t free)))
      (λ v. record {
        mid = v.mid;
        r = v.r;
        sets = record { to_is = v.value.to_is; takes = v.value.takes; register = v.value.register; type_is = refl; instr = v.value.instr };
        stores = v.stores;
      })

  -- an expression's value goes to its target
  pub expr_stored : (scope : LocalScope) (e : Expr) (t : Target) (s : Scalar) (from free : ℕ) (l : Lists) (x : Emitted) → Emits code arguments layout (ExprCode code layout p (home_of t) scope e) from free l x → x.location.ty ≡ s →
      Writes (λ from to. ExprStored code layout p scope t e from to free) from l (then_stored (own_of t) (expr_fitting (own_of t) s e x from (home_or (own_of t) free) l))
  expr_stored scope (Constant n k at) (LocalAt y) s from free l x h q = word_stored (LocalAt y) (constant_in y.1 k n) y.1 refl from free l
  expr_stored scope (Constant n k at) (CellAt y) s from free l x h q = word_stored (CellAt y) (constant_in y.global.ty k n) y.global.ty refl from free l
  expr_stored scope (Constant n k at) (ElementOf y ri) s from free l x h q = word_stored (ElementOf y ri) (constant_in y.global.ty k n) y.global.ty refl from free l
  expr_stored scope e t s from free l x h q =
      let A : Coded = ExprCode code layout p (home_of t) scope e in
      let made = fitting (own_of t) s x (home_or (own_of t) free) in
      writes_as (ValueStored (λ from to free r z. Fitted A t s from to free r) free t) (λ from to. ExprStored code layout p scope t e from to free) from l (then_stored (own_of t) made)
      (then_stored_writes (λ from to free r z. Fitted A t s from to free r) t from free l made (fitting_emits t A s from free l x h q))
      (λ v. record {
        mid = v.value.mid;
        r = v.value.ra;
        t = s;
        value = v.value.value;
        stores = record { mid = v.mid; r = v.r; converts = v.value.converts; stores = v.stores };
      })
