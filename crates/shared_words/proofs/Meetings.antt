-- Two seats meet: one speaks for both threads while the lock is loaded, once for each.
use Rattle.std.proofs.Common.{◌≡◌, inl, inr, ℕ, List, [], ◌∷◌, ◌++◌, refl, sym, ap, ◌∙◌, subst, arith}
use Rattle.shared_words.specs.Views.{Among, ViewPart, first_of, with_floor, without_first}
use Rattle.shared_words.specs.inner.Floors.{all_floored}
use Rattle.shared_words.proofs.Traces.{begins_on}
use Rattle.shared_words.specs.Rule.{SeatView, MayBeFloor}
use Rattle.shared_words.specs.inner.Floors.{Floored}

module _ (m o m1 m2 m3 m4 o1 o2 w t : SeatView) (k n : ℕ) (e1 : o1 ≡ ([], o.1)) (e2 : w ≡ (o.0, [])) (e3 : m1 ≡ (m.0 ++ w.0, m.1)) (e4 : Floored m1 k m2) (e5 : Floored m2 n m3) (e6 : m4 ≡ (first_of m3.0, m3.1)) (e7 : t ≡ (without_first m3.0, [])) (e8 : o2 ≡ (o1.0 ++ t.0, o1.1))
    (p q : ViewPart) (mine : m ≡ (p ∷ [], [])) (theirs : o ≡ (q ∷ [], [])) where
  both : m1.0 ≡ p ∷ q ∷ []
  both = ap (λ (x : SeatView). x.0) e3 ∙ (λ i. (mine i).0 ++ (ap (λ (x : SeatView). x.0) e2 ∙ ap (λ (x : SeatView). x.0) theirs) i)

  abbrev ks : List ℕ
  ks = e4.0

  abbrev pub ns : List ℕ
  ns = e5.0

  first : m2.0 ≡ with_floor k ks p ∷ with_floor k ks q ∷ []
  first = e4.2 ∙ ap (all_floored k ks) both

  second : m3.0 ≡ with_floor n ns p ∷ with_floor n ns q ∷ []
  second = e5.2 ∙ ap (all_floored n ns) first

  m4_is : m4 ≡ (with_floor n ns p ∷ [], [])
  m4_is = e6 ∙ (λ i. (first_of (second i), (e5.1 ∙ (e4.1 ∙ (ap (λ (x : SeatView). x.1) e3 ∙ ap (λ (x : SeatView). x.1) mine))) i))

  o2_is : o2 ≡ (with_floor n ns q ∷ [], [])
  o2_is = e8 ∙ (λ i. ((e1 i).0 ++ (ap (λ (x : SeatView). x.0) e7 ∙ ap without_first second) i, (ap (λ (x : SeatView). x.1) e1 ∙ ap (λ (x : SeatView). x.1) theirs) i))

  -- the second load is not below the first, nor that below the old floor
  may_be_floor : (r : ViewPart) → MayBeFloor k ks r → MayBeFloor n ns (with_floor k ks r) → MayBeFloor n ns r
  may_be_floor r f g = let a = f.floor in let b = g.floor in record { locks = g.locks; below = g.below; floor = omega arith; lock = g.lock; seen = begins_on r.seen ks ns f.seen g.seen; stands = g.stands }

  mine_may_be : MayBeFloor n ns p
  mine_may_be = may_be_floor p (e4.3 p (subst (Among p) (sym both) (inl refl))) (e5.3 (with_floor k ks p) (subst (Among (with_floor k ks p)) (sym first) (inl refl)))

  theirs_may_be : MayBeFloor n ns q
  theirs_may_be = may_be_floor q (e4.3 q (subst (Among q) (sym both) (inr (inl refl)))) (e5.3 (with_floor k ks q) (subst (Among (with_floor k ks q)) (sym first) (inr (inl refl))))

  pub meets_both : ((m4 ≡ (with_floor n ns p ∷ [], [])) × MayBeFloor n ns p) × ((o2 ≡ (with_floor n ns q ∷ [], [])) × MayBeFloor n ns q)
  meets_both = ((m4_is, mine_may_be), (o2_is, theirs_may_be))
