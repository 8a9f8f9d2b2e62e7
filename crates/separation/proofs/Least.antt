-- The least touching set is a touching set, and a fault of separation shows that worker is in it.
use Rattle.std.proofs.Common.{◌≡◌, refl, arith, sym, ◌∙◌, ◌⊎◌, inl, inr, ℕ, List, [], ◌∷◌, Option, Some, None, Bool, true, false, IsTrue}
use Rattle.std.specs.Prelude.{codes, if◌then◌else◌, not, ◌||◌, Contains}
use Rattle.std.specs.Option.{option_or}
use Rattle.std.proofs.lemmas.List.Elements.{Contains-append_right}
use Rattle.lex.specs.declared.token.Span.{Span}
use Rattle.syntax.specs.Tree.{Program}
use Rattle.syntax.specs.Typing.{first_unmet}
use Rattle.syntax.proofs.typing.Demands.{first_of_two}
use Rattle.safety.specs.Sites.{Construct, Prints, Relaxes, OpensOuter, Cancels, CancelsOuter, Calls, Uses, Site, sites_of}
use Rattle.safety.specs.Safe.{FunctionSet}
use Rattle.separation.specs.Touching.{IsAccess, Touches, IsTouching, TellsTouching, demands_at, separation_demands}
use Rattle.separation.specs.Laws.{TouchingIsTouchingSet, FaultTouches}

-- an access for a set is one for a larger set
access_in_larger : (small large : List ℕ → Type 0) → ((f : List ℕ) → small f → large f) → (c : Construct) → IsAccess small c → IsAccess large c
access_in_larger small large within (Calls f) h = within f h
access_in_larger small large within (Uses x) h = tt
access_in_larger small large within Prints h = h
access_in_larger small large within Relaxes h = h
access_in_larger small large within OpensOuter h = h
access_in_larger small large within Cancels h = h
access_in_larger small large within CancelsOuter h = h

pub least_is_touching : TouchingIsTouchingSet
least_is_touching p f s there bare set touching =
    touching f s there (bare.0, access_in_larger (IsTouching p) (λ g. IsTrue (set g)) (λ g h. h set touching) s.construct bare.1)

-- a demand that is not met
unmet : (own first : ℕ × Span) (b : Bool) → (if b then None else Some own) ≡ Some first → b ≡ false
unmet own first true e = absurd cc
unmet own first false e = refl

bare_call : (b t : Bool) → (b || not t) ≡ false → (b ≡ false) × (t ≡ true)
bare_call true t h = absurd cc
bare_call false true h = (refl, refl)
bare_call false false h = absurd cc

nothing_is : {A : Type 0} (x : A) → None ≡ Some x → ⊥
nothing_is x e = cc

-- a fault of two lists is one of the first or of the second
of_either : {A : Type 0} (o o' : Option A) (x : A) → option_or o o' ≡ Some x → (o ≡ Some x) ⊎ (o' ≡ Some x)
of_either None o' x e = inr e
of_either (Some y) o' x e = inl e

module _ (p : Program) (touching : FunctionSet) (tells : TellsTouching p touching) (n : ℕ) (at : Span) where
  at_site : (s : Site) (c : Construct) → first_unmet (demands_at touching s c) ≡ Some (n, at) → (s.in_any ≡ false) × IsAccess (IsTouching p) c
  at_site s (Uses x) e = (unmet (50, s.span) (n, at) s.in_any e, tt)
  at_site s (Calls f) e = let h = bare_call s.in_any (touching f) (unmet (51, s.span) (n, at) (s.in_any || not (touching f)) e) in (h.0, (tells f).0 h.1)
  at_site s Prints e = absurd (nothing_is (n, at) e)
  at_site s Relaxes e = absurd (nothing_is (n, at) e)
  at_site s OpensOuter e = absurd (nothing_is (n, at) e)
  at_site s Cancels e = absurd (nothing_is (n, at) e)
  at_site s CancelsOuter e = absurd (nothing_is (n, at) e)

  abbrev Found : List Site → Type 0
  Found all = (s : Site) × Contains all s × Touches (IsTouching p) s

  at_either : (all : List Site) (s : Site) (o o' : Option (ℕ × Span)) → Contains all s → (o ≡ Some (n, at) → (s.in_any ≡ false) × IsAccess (IsTouching p) s.construct) → (o' ≡ Some (n, at) → Found all) → (o ≡ Some (n, at)) ⊎ (o' ≡ Some (n, at)) → Found all
  at_either all s o o' there here later (inl e) = (s, there, here e)
  at_either all s o o' there here later (inr e) = later e

  at_sites : (all ss : List Site) → ((s : Site) → Contains ss s → Contains all s) → first_unmet (separation_demands touching ss) ≡ Some (n, at) → Found all
  at_sites all [] within e = absurd (nothing_is (n, at) e)
  at_sites all (s ∷ ss) within e =
      let own = demands_at touching s s.construct in
      let rest = separation_demands touching ss in
      at_either all s (first_unmet own) (first_unmet rest) (within s (0, omega arith, refl)) (at_site s s.construct)
      (at_sites all ss (λ x h. within x (Contains-append_right (s ∷ []) ss x h)))
      (of_either (first_unmet own) (first_unmet rest) (n, at) (sym (first_of_two own rest) ∙ e))

pub fault_touches : FaultTouches
fault_touches p n at (touching, tells, first) =
    let found = at_sites p touching tells n at (sites_of p (codes "worker")) (sites_of p (codes "worker")) (λ s h. h) first in
    least_is_touching p (codes "worker") found.0 found.1 found.2
