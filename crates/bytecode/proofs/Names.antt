-- Names that differ, function by function.
use Rattle.std.proofs.Common.{◌≡◌, ℕ, ◌+◌, ◌<◌, Bool, true, false, List, cond, refl, sym, ap, ◌∙◌, subst, arith, inl, inr, Bor}
use Rattle.std.specs.Prelude.{slice_get, bytes_eq, not, IsTrue, ◌↔◌}
use Rattle.std.proofs.lemmas.Slice.Eq.{bytes_eq-Decides}
use Rattle.bytecode.specs.Code.{Code, FunctionCode}
use Rattle.bytecode.specs.Valid.{Has, HasDistinctNames}
use Rattle.bytecode.proofs.Tables.{some_same}
use Rattle.bytecode.proofs.Arrivals.{equal_or_not}

-- one of the first functions has this name
abbrev pub IsNamed : Code → ℕ → List ℕ → Type 0
IsNamed code k name = (n : ℕ) × (f : FunctionCode) × (n < k) × Has code n f × (f.name ≡ name)

-- no two of the first functions have one name
abbrev pub AreDistinct : Code → ℕ → Type 0
AreDistinct code k = (i j : ℕ) (f g : FunctionCode) → i < k → j < k → Has code i f → Has code j g → f.name ≡ g.name → i ≡ j

-- whether an item that is put into a set was in it
pub was_in : (b added : Bool) → added ≡ not b → added ≡ false → IsTrue b
was_in true added e f = refl
was_in false added e f = cc (e, f)

pub was_not : (b added : Bool) → added ≡ not b → added ≡ true → IsTrue b → ⊥
was_not true added e f t = cc (e, f)
was_not false added e f t = cc t

module _ (code : Code) (k : ℕ) (f : FunctionCode) (has : Has code k f) where
  the_same : (n : ℕ) (g : FunctionCode) → n ≡ k → Has code n g → g ≡ f
  the_same n g e h = some_same g f (sym h ∙ ap (slice_get code.functions) e ∙ has)

  -- a set of names, by its test, that gets one name more
  set_more : (old : Bool) (key q : List ℕ) (b : Bool) → key ≡ f.name → bytes_eq key q ≡ b → IsTrue old ↔ IsNamed code k q → IsTrue (cond b true old) ↔ IsNamed code (k + 1) q
  set_more old key q true e s h = (λ t. (k, f, omega arith, has, sym e ∙ (bytes_eq-Decides key q).0 s), λ n. refl)
  set_more old key q false e s h = (
    λ t. let n = h.0 t in (n.0, n.1, (let l = n.2 in omega (arith, l)), n.3, n.4),
    λ n. elim (equal_or_not n.0 k) [
      | inl same ↦ cc (s, (bytes_eq-Decides key q).1 (e ∙ ap (λ x. x.name) (sym (the_same n.0 n.1 same n.3)) ∙ n.4))
      | inr other ↦ h.1 (n.0, n.1, (let l = n.2 in omega (arith, l, other)), n.3, n.4)
    ],
  )

  pub named_more : (old new : Bor (List ℕ) → Bool) (key : List ℕ) → key ≡ f.name → ((q : Bor (List ℕ)) → IsTrue (old q) ↔ IsNamed code k q.now) → ((q : Bor (List ℕ)) → new q ≡ cond (bytes_eq key q.now) true (old q)) → (q : Bor (List ℕ)) → IsTrue (new q) ↔ IsNamed code (k + 1) q.now
  named_more old new key e h u q = subst (λ b. IsTrue b ↔ IsNamed code (k + 1) q.now) (sym (u q)) (set_more (old q) key q.now (bytes_eq key q.now) e refl (h q))

  pub distinct_more : AreDistinct code k → (IsNamed code k f.name → ⊥) → AreDistinct code (k + 1)
  distinct_more d fresh i j g h a b x y e = elim (equal_or_not i k) [
    | inl p ↦ elim (equal_or_not j k) [
      | inl q ↦ p ∙ sym q
      | inr q ↦ absurd (fresh (j, h, omega (arith, b, q), y, sym e ∙ ap (λ z. z.name) (the_same i g p x)))
    ]
    | inr p ↦ elim (equal_or_not j k) [
      | inl q ↦ absurd (fresh (i, g, omega (arith, a, p), x, e ∙ ap (λ z. z.name) (the_same j h q y)))
      | inr q ↦ d i j g h (omega (arith, a, p)) (omega (arith, b, q)) x y e
    ]
  ]

  -- a name that was there before
  pub named_twice : IsNamed code k f.name → HasDistinctNames code → ⊥
  named_twice n d = let e = d n.0 k n.1 f n.3 has n.4 in let l = n.2 in absurd (omega (arith, e, l))
