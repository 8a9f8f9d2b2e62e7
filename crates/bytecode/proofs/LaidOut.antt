-- Codes of functions that lie one after another: where they end, and that they cover the whole code.
use Rattle.std.proofs.Common.{◌≡◌, ℕ, zero, suc, add-one, ◌+◌, ◌<◌, ◌≤◌, List, [], ◌∷◌, length, drop, Some, refl, sym, ap, subst, arith, inl, inr}
use Rattle.std.specs.Prelude.{slice_get, ◌↔◌}
use Rattle.std.proofs.lemmas.Bool.{cases_lt}
use Rattle.std.proofs.lemmas.List.{at_drop_all}
use Rattle.bytecode.specs.Code.{Code, FunctionCode}
use Rattle.bytecode.specs.Valid.{end_before, end_of, Has, IsCovered, IsValid}
use Rattle.bytecode.specs.inner.Layout.{StartBeforeEnds, AreLaidOut}
use Rattle.bytecode.proofs.Tables.{some_same}

module _ (code : Code) where
  pub starts_later : (fs : List FunctionCode) (n : ℕ) → StartBeforeEnds code fs → StartBeforeEnds code (drop n fs)
  starts_later fs zero h = h
  starts_later [] (suc n) h = tt
  starts_later (f ∷ fs) (suc n) h = starts_later fs n h.1

  -- a function begins before its end
  pub starts_at : (fs : List FunctionCode) (n : ℕ) (f : FunctionCode) → StartBeforeEnds code fs → slice_get fs n ≡ Some f → f.first < end_before code (drop (suc n) fs)
  starts_at [] n f h e = cc e
  starts_at (g ∷ fs) zero f h e = subst (λ (x : FunctionCode). x.first < end_before code fs) (some_same g f e) h.0
  starts_at (g ∷ fs) (suc n) f h e = starts_at fs n f h.1 e

  pub starts_of : (fs : List FunctionCode) → ((n : ℕ) (f : FunctionCode) → slice_get fs n ≡ Some f → f.first < end_before code (drop (suc n) fs)) → StartBeforeEnds code fs
  starts_of [] h = tt
  starts_of (f ∷ fs) h = (h 0 f refl, starts_of fs (λ n g e. h (suc n) g e))

  -- no function ends behind the code
  pub ends_within : (fs : List FunctionCode) → StartBeforeEnds code fs → end_before code fs ≤ length code.instructions
  ends_within [] h = omega arith
  ends_within (f ∷ fs) h = let a = ends_within fs h.1 in let b = h.0 in omega (arith, a, b)

  -- each place lies in a function
  covers : (fs : List FunctionCode) (q : ℕ) → StartBeforeEnds code fs → end_before code fs ≤ q → q < length code.instructions → (n : ℕ) × (f : FunctionCode) × (slice_get fs n ≡ Some f) × (f.first ≤ q) × (q < end_before code (drop (suc n) fs))
  covers [] q h a b = absurd (omega (arith, a, b))
  covers (f ∷ fs) q h a b = elim (cases_lt q (end_before code fs)) [
    | inl lt ↦ (0, f, refl, a, lt)
    | inr le ↦ let r = covers fs q h.1 le b in (suc r.0, r.1, r.2, r.3, r.4)
  ]

  -- the first function begins first
  begins_first : (fs : List FunctionCode) (n : ℕ) (f : FunctionCode) → StartBeforeEnds code fs → slice_get fs n ≡ Some f → end_before code fs ≤ f.first
  begins_first [] n f h e = cc e
  begins_first (g ∷ fs) zero f h e = subst (λ (x : FunctionCode). g.first ≤ x.first) (some_same g f e) (omega arith)
  begins_first (g ∷ fs) (suc n) f h e = let a = h.0 in let b = begins_first fs n f h.1 e in omega (arith, a, b)

  pub laid_out_covers : AreLaidOut code → (q : ℕ) → q < length code.instructions → IsCovered code q
  laid_out_covers h q lt = let z = h.0 in covers code.functions q h.1 (omega (arith, z)) lt

  nothing_before : (fs : List FunctionCode) (n : ℕ) (f : FunctionCode) → StartBeforeEnds code fs → slice_get fs n ≡ Some f → f.first ≤ 0 → end_before code fs ≡ 0
  nothing_before fs n f h e z = let a = begins_first fs n f h e in omega (arith, a, z)

  some_instruction : (n : ℕ) (f : FunctionCode) → StartBeforeEnds code code.functions → Has code n f → 0 < length code.instructions
  some_instruction n f h e =
      let a = starts_at code.functions n f h e in
      let b = ends_within (drop (suc n) code.functions) (starts_later code.functions (suc n) h) in
      omega (arith, a, b)

  pub valid_laid_out : IsValid code → AreLaidOut code
  valid_laid_out v =
      let s : StartBeforeEnds code code.functions = starts_of code.functions (λ n f e. (v.each n f e).starts) in
      let w = v.worker in
      let c = v.covered 0 (some_instruction w.0 w.1 s w.2) in
      (nothing_before code.functions c.0 c.1 s c.2 c.3, s)

  pub ends_in_code : (n : ℕ) → StartBeforeEnds code code.functions → end_of code n ≤ length code.instructions
  ends_in_code n h = ends_within (drop (suc n) code.functions) (starts_later code.functions (suc n) h)

  split : {X : Type 0} (xs : List X) (k : ℕ) (x : X) → slice_get xs k ≡ Some x → drop k xs ≡ x ∷ drop (suc k) xs
  split [] k x e = cc e
  split (y ∷ xs) zero x e = ap (λ z. z ∷ xs) (some_same y x e)
  split (y ∷ xs) (suc k) x e = split xs k x e

  -- one more function that begins before its end
  pub starts_more : (fs : List FunctionCode) (k : ℕ) (f : FunctionCode) (W : Type 0) → slice_get fs k ≡ Some f → f.first < end_before code (drop (suc k) fs) → StartBeforeEnds code (drop k fs) ↔ W → StartBeforeEnds code (drop (k + 1) fs) ↔ W
  starts_more fs k f W e h i =
      let s = split fs k f e in
      rw add-one (λ a. i.0 (subst (StartBeforeEnds code) (sym s) (h, a)), λ w. (subst (StartBeforeEnds code) s (i.1 w)).1)

  -- where the function before one ends
  pub end_there : (fs : List FunctionCode) (k : ℕ) (f : FunctionCode) → slice_get fs k ≡ Some f → f.first ≡ end_before code (drop k fs)
  end_there fs k f e = ap (end_before code) (sym (split fs k f e))

  -- where the last one ends
  pub end_last : (fs : List FunctionCode) (k : ℕ) → length fs ≤ k → length code.instructions ≡ end_before code (drop k fs)
  end_last fs k h = sym (at_drop_all (end_before code) fs k h)
