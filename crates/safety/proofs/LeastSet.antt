-- The numbers that are reached are the least set.
use Rattle.std.proofs.Common.{◌≡◌, ℕ, List, [], ◌∷◌, get_or, refl, sym, ap, subst, ◌∙◌, arith, Bool, true, false, IsTrue, Option, Some, None, ◌⊎◌, inl, inr, option_map, unwrap_or}
use Rattle.safety.specs.Safe.{FunctionSet}
use Rattle.safety.specs.Links.{Link, IsIn, KeepsTo, IsLeast}
use Rattle.safety.specs.Sets.{set_by}
use Rattle.safety.specs.inner.Graphs.{IsNumbered, IsNumber, HasLinks, IsWay}
use Rattle.safety.specs.inner.Closing.{IsMember, IsClosed}

module _ (links : List Link) (numbers : List ℕ → Option ℕ) (callers : List (List ℕ)) (members : List Bool) (h : IsNumbered numbers callers) (k : HasLinks links numbers callers) (c : IsClosed callers members) where
  abbrev set : FunctionSet
  set = set_by numbers members

  is_in : (x : List ℕ) (i : ℕ) → numbers x ≡ Some i → IsMember members i → IsTrue (set x)
  is_in x i e m = ap (λ o. unwrap_or (option_map (λ n. get_or members n false) o) false) e ∙ m

  is_member : (x : List ℕ) (i : ℕ) → numbers x ≡ Some i → IsTrue (set x) → IsMember members i
  is_member x i e m = sym (ap (λ o. unwrap_or (option_map (λ n. get_or members n false) o) false) e) ∙ m

  has_number : (o : Option ℕ) → IsTrue (unwrap_or (option_map (λ n. get_or members n false) o) false) → (i : ℕ) × (o ≡ Some i) × IsMember members i
  has_number None m = absurd (no m)
    where
      no : false ≡ true → ⊥
      no e = cc
  has_number (Some i) m = (i, refl, m)

  callee_is_member : (o : Option (List ℕ)) (j : ℕ) → IsNumber numbers o j → IsIn set o → IsMember members j
  callee_is_member None j e m = subst (IsMember members) (sym e) c.begun
  callee_is_member (Some x) j e m = is_member x j e m

  keeps : KeepsTo links set
  keeps l there m = (let s = k.complete l there in is_in l.caller s.1 s.2.1 (c.closed s.0 s.1 (callee_is_member l.callee s.0 s.2.0 m) s.3))

  module _ (other : FunctionSet) (obeys : KeepsTo links other) where
    abbrev Known : ℕ → Type 0
    Known i = (i ≡ 0) ⊎ ((x : List ℕ) → numbers x ≡ Some i → IsTrue (other x))

    callee_known : (o : Option (List ℕ)) (j : ℕ) → IsNumber numbers o j → Known j → IsIn other o
    callee_known None j e m = tt
    callee_known (Some x) j e (inl z) = absurd (let w = h.within x j e in omega (arith, w.0, z))
    callee_known (Some x) j e (inr f) = f x e

    known : (js : List ℕ) (i : ℕ) → IsWay callers js i → Known i
    known [] i e = inl e
    known (j ∷ js) i way = (
        let s = k.sound j i way.0 in
        let caller : IsTrue (other s.0.caller) = obeys s.0 s.1 (callee_known s.0.callee j s.2.0 (known js j way.1)) in
        inr (λ x e. subst (λ y. IsTrue (other y)) (h.distinct s.0.caller x i s.2.1 e) caller)
        )

    finds : (f : List ℕ) (i : ℕ) → numbers f ≡ Some i → Known i → IsTrue (other f)
    finds f i e (inl z) = absurd (let w = h.within f i e in omega (arith, w.0, z))
    finds f i e (inr g) = g f e

    least : (f : List ℕ) → IsTrue (set f) → IsTrue (other f)
    least f m = (let n = has_number (numbers f) m in let way = c.reached n.0 n.2 in finds f n.0 n.1 (known way.0 n.0 way.1))

  pub is_least : IsLeast links set
  is_least = record { keeps = keeps; least = least }
