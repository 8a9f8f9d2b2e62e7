-- Which links a set keeps to, by their parts.
use Rattle.std.proofs.Common.{◌≡◌, ℕ, zero, suc, List, [], ◌∷◌, ◌++◌, refl, sym, subst, arith, Bool, true, false, IsTrue, None, inl, inr}
use Rattle.std.specs.Prelude.{Contains}
use Rattle.std.proofs.lemmas.List.Elements.{Contains-append_left, Contains-append_right, Contains-append_cases}
use Rattle.safety.specs.Safe.{FunctionSet}
use Rattle.safety.specs.Links.{Link, IsIn, KeepsTo}
use Rattle.safety.specs.SiteLinks.{link_if}

pub only : {X : Type 0} (x y : X) → Contains (x ∷ []) y → y ≡ x
only x y (zero, less, e) = sym e
only x y (suc k, less, e) = absurd (omega (arith, less))

module _ (set : FunctionSet) where
  pub keeps_none : KeepsTo [] set
  keeps_none l c i = absurd (omega (arith, c.1))

  pub keeps_one : (l : Link) → (IsIn set l.callee → IsTrue (set l.caller)) → KeepsTo (l ∷ []) set
  keeps_one l h m c = subst (λ o. IsIn set o.callee → IsTrue (set o.caller)) (sym (only l m c)) h

  pub keeps_both : (xs ys : List Link) → KeepsTo xs set → KeepsTo ys set → KeepsTo (xs ++ ys) set
  keeps_both xs ys h k l c = elim (Contains-append_cases xs ys l c) [ inl d ↦ h l d | inr d ↦ k l d ]

  pub keeps_left : (xs ys : List Link) → KeepsTo (xs ++ ys) set → KeepsTo xs set
  keeps_left xs ys h l c = h l (Contains-append_left xs ys l c)

  pub keeps_right : (xs ys : List Link) → KeepsTo (xs ++ ys) set → KeepsTo ys set
  keeps_right xs ys h l c = h l (Contains-append_right xs ys l c)

  pub keeps_if : (b : Bool) (f : List ℕ) → (b ≡ true → IsTrue (set f)) → KeepsTo (link_if b f) set
  keeps_if true f h = keeps_one (record { caller = f; callee = None }) (λ i. h refl)
  keeps_if false f h = keeps_none

  pub in_set_if : (b : Bool) (f : List ℕ) → KeepsTo (link_if b f) set → b ≡ true → IsTrue (set f)
  in_set_if true f h e = h (record { caller = f; callee = None }) (0, omega arith, refl) tt
  in_set_if false f h e = absurd cc
