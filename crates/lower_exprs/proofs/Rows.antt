-- The instructions of values one after another.
use Rattle.std.proofs.Common.{◌≡◌, ℕ, zero, suc, ◌+◌, ◌<◌, ◌≤◌, List, [], ◌∷◌, ◌++◌, length, map, drop, get_or, Ok, refl, sym, ap, arith, ◌∙◌, append_assoc, append-nil}
use Rattle.std.proofs.lemmas.List.{at_drop_more, drop_all}
use Rattle.lex.specs.declared.token.Scalar.{Scalar}
use Rattle.syntax.specs.declared.tree.Expr.{Expr as OwnExpr}
use Rattle.syntax.specs.declared.tree.Parameter.{Parameter as OwnParameter}
use Rattle.syntax.specs.Tree.{Program}
use Rattle.syntax.specs.Views.{expr_of, exprs_of, parameter_of}
use Rattle.bytecode.specs.declared.instr.Instr.{Instr}
use Rattle.lower_spec.specs.Expressions.{LocalScope, types_left}
use Rattle.selection.specs.declared.locations.ValueRegister.{ValueRegister}
use Rattle.selection.specs.Lists.{Lists}
use Rattle.selection.specs.Expressions.{Emitted, AllEmitted, above, with_argument, types_of, emit_all}
use Rattle.selection.specs.inner.Parts.{argument_value}
use Rattle.selection.proofs.Growing.{all_more}
use Rattle.lower_exprs.specs.Fragments.{Adds, of_value}

-- values behind other instructions and registers
abbrev pub values_behind : List Instr → List ℕ → AllEmitted → AllEmitted
values_behind code rs es = record es { code = code ++ es.code; registers = rs ++ es.registers }

-- the types of what is to come
further : (ts : List Scalar) (i : ℕ) → types_left (drop i ts) ≡ drop (suc i) ts
further [] zero = refl
further [] (suc i) = refl
further (t ∷ ts) zero = refl
further (t ∷ ts) (suc i) = further ts i

types_further : (ts : List Scalar) (i : ℕ) → types_left (drop i ts) ≡ drop (i + 1) ts
types_further ts i = let next : suc i ≡ i + 1 = omega arith in further ts i ∙ ap (λ k. drop k ts) next

-- the type of a parameter is the first one from there on
pub type_there : {A : Type 0} (qs : List (OwnParameter A)) (i : ℕ) (q : OwnParameter A) → i < length qs → q ≡ get_or qs i q → drop i (types_of (map parameter_of qs)) ≡ q.ty ∷ drop (suc i) (types_of (map parameter_of qs))
type_there [] i q h is = absurd (omega (arith, h))
type_there {A = A} (x ∷ qs) zero q h is = ap (λ (y : OwnParameter A). y.ty ∷ types_of (map parameter_of qs)) (sym is)
type_there (x ∷ qs) (suc i) q h is = type_there qs i q (omega (arith, h)) is

pub no_type : {A : Type 0} (qs : List (OwnParameter A)) (i : ℕ) → length qs ≤ i → drop i (types_of (map parameter_of qs)) ≡ []
no_type [] zero h = refl
no_type [] (suc i) h = refl
no_type (x ∷ qs) zero h = absurd (omega (arith, h))
no_type (x ∷ qs) (suc i) h = no_type qs i (omega (arith, h))

module _ (p : Program) (scope : LocalScope) {A : Type 0} (ts : List Scalar) (es : List (OwnExpr A)) (i to later : ℕ) (l : Lists) (code : List Instr) (rs : List ℕ) (whole : AllEmitted) where
  row : ℕ → ℕ → ℕ → Lists → AllEmitted
  row j t k m = emit_all p scope (drop j ts) (exprs_of (drop j es)) t k m

  module _ (e : OwnExpr A) (h : i < length es) (is : e ≡ get_or es i e) (inv : values_behind code rs (emit_all p scope (drop i ts) (exprs_of (drop i es)) to later l) ≡ whole) where
    abbrev First : Emitted
    First = argument_value p scope (drop i ts) (expr_of e) to later l

    here : row i to later l ≡ with_argument First (row (i + 1) First.location.to (above later First.location.register) First.lists)
    unfolding row
    here =
        at_drop_more (λ xs. emit_all p scope (drop i ts) (exprs_of xs) to later l) es i e h
        ∙ ap (λ x. emit_all p scope (drop i ts) (exprs_of (x ∷ drop (i + 1) es)) to later l) (sym is)
        ∙ ap (λ us. with_argument First (emit_all p scope us (exprs_of (drop (i + 1) es)) First.location.to (above later First.location.register) First.lists)) (types_further ts i)

    pub next_value : (code' : List Instr) (rs' : List ℕ) (l' : Lists) (a : ValueRegister) (later' : ℕ) → Adds (of_value First) code code' l' (Ok a) → rs' ≡ rs ++ a.register ∷ [] → later' ≡ above later a.register →
        values_behind code' rs' (emit_all p scope (drop (i + 1) ts) (exprs_of (drop (i + 1) es)) a.to later' l') ≡ whole
    unfolding row
    next_value code' rs' l' a later' k er ek =
        let rest = row (i + 1) First.location.to (above later First.location.register) First.lists in
        let there : values_behind code' rs' (row (i + 1) a.to later' l') ≡ values_behind (code ++ First.code) (rs ++ First.location.register ∷ []) rest =
        (λ j. values_behind (k.code j) ((er ∙ ap (λ (x : ValueRegister). rs ++ x.register ∷ []) k.end) j) (row (i + 1) (k.end j).to ((ek ∙ ap (λ (x : ValueRegister). above later x.register) k.end) j) (k.lists j))) in
        there
        ∙ (λ j. record rest { code = append_assoc code First.code rest.code j; registers = append_assoc rs (First.location.register ∷ []) rest.registers j })
        ∙ sym (ap (values_behind code rs) here)
        ∙ inv

    -- the first value needs no more registers than all
    pub first_within : First.lists.registers ≤ whole.lists.registers
    unfolding row
    first_within =
        let a = all_more p scope (drop (i + 1) ts) (exprs_of (drop (i + 1) es)) First.location.to (above later First.location.register) First.lists in
        let b = ap (λ (w : AllEmitted). w.lists.registers) here in
        let d = ap (λ (w : AllEmitted). w.lists.registers) inv in
        omega (arith, a, b, d)

  pub no_more_values : length es ≤ i → values_behind code rs (emit_all p scope (drop i ts) (exprs_of (drop i es)) to later l) ≡ whole → record { code = code; lists = l; registers = rs; to = to } ≡ whole
  no_more_values h inv =
      (λ j. record { code = sym (append-nil code) j; lists = l; registers = sym (append-nil rs) j; to = to })
      ∙ sym (ap (λ xs. values_behind code rs (emit_all p scope (drop i ts) (exprs_of xs) to later l)) (drop_all i es h))
      ∙ inv
