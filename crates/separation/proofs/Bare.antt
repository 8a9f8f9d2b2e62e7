-- The least set that keeps to the links of touching functions tells which touch.
use Rattle.std.proofs.Common.{◌≡◌, refl, arith, sym, subst, ◌∙◌, inl, inr, ℕ, List, [], ◌∷◌, Some, None, Bool, true, false, IsTrue}
use Rattle.std.specs.Prelude.{not, ◌&&◌, ◌||◌, bytes_eq, codes, Contains}
use Rattle.std.proofs.lemmas.List.Elements.{Contains-append_cases}
use Rattle.std.proofs.Math.Logic.{∥∥₁_elim}
use Rattle.std.proofs.lemmas.Slice.Eq.{bytes_eq-Decides}
use Rattle.syntax.specs.Tree.{Program}
use Rattle.syntax.specs.Typing.{first_unmet, IsTypedProgram}
use Rattle.syntax.proofs.typing.Demands.{AreMet, all_met, met_before, met_behind, is_met}
use Rattle.safety.specs.Sites.{Construct, Prints, Relaxes, OpensOuter, Cancels, CancelsOuter, Calls, Uses, Site, sites_of}
use Rattle.safety.specs.Safe.{FunctionSet, IsSafeProgram}
use Rattle.safety.specs.Links.{KeepsTo, IsLeast}
use Rattle.safety.proofs.Linked.{only, keeps_none, keeps_one, keeps_if, in_set_if}
use Rattle.safety.proofs.Spread.{tells_least}
use Rattle.separation.specs.inner.TouchingLinks.{bare_links, links_at, touching_links}
use Rattle.separation.specs.Touching.{IsAccess, Touches, IsTouchingSet, IsTouching, TellsTouching, IsAccepted, demands_at, separation_demands}

no : {X : Type 0} → false ≡ true → X
no e = absurd cc

module _ (set : FunctionSet) where
  abbrev In : List ℕ → Type 0
  In f = IsTrue (set f)

  bare_in_set : (f : List ℕ) (b : Bool) (c : Construct) → KeepsTo (bare_links f b c) set → b ≡ false → IsAccess In c → In f
  bare_in_set f true c h e u = no (sym e)
  bare_in_set f false (Uses x) h e u = in_set_if set true f h refl
  bare_in_set f false (Calls g) h e u = h (record { caller = f; callee = Some g }) (0, omega arith, refl) u
  bare_in_set f false Prints h e u = absurd u
  bare_in_set f false Relaxes h e u = absurd u
  bare_in_set f false OpensOuter h e u = absurd u
  bare_in_set f false Cancels h e u = absurd u
  bare_in_set f false CancelsOuter h e u = absurd u

  bare_keeps : (f : List ℕ) (b : Bool) (c : Construct) → (b ≡ false → IsAccess In c → In f) → KeepsTo (bare_links f b c) set
  bare_keeps f true c h = keeps_none set
  bare_keeps f false (Uses x) h = keeps_if set true f (λ e. h refl tt)
  bare_keeps f false (Calls g) h = keeps_one set (record { caller = f; callee = Some g }) (h refl)
  bare_keeps f false Prints h = keeps_none set
  bare_keeps f false Relaxes h = keeps_none set
  bare_keeps f false OpensOuter h = keeps_none set
  bare_keeps f false Cancels h = keeps_none set
  bare_keeps f false CancelsOuter h = keeps_none set

pub tells_touching : (p : Program) (set : FunctionSet) → IsLeast (touching_links p) set → TellsTouching p set
tells_touching p set h =
    tells_least links_at (λ s t. Touches (λ g. IsTrue (s g)) t)
    (λ s f t tied u. bare_in_set s f t.in_any t.construct tied u.0 u.1)
    (λ s f t led. bare_keeps s f t.in_any t.construct (λ e u. led (e, u))) p set h

-- where no demand is unmet, worker doesn't touch
module _ (p : Program) (touching : FunctionSet) (tells : TellsTouching p touching) (met : None ≡ first_unmet (separation_demands touching (sites_of p (codes "worker")))) where
  abbrev others : FunctionSet
  others f = touching f && not (bytes_eq (codes "worker") f)

  and_left : (a b : Bool) → IsTrue (a && b) → IsTrue a
  and_left true b h = refl
  and_left false b h = no h

  and_both : (a b : Bool) → IsTrue a → b ≡ false → IsTrue (a && not b)
  and_both true true h e = no (sym e)
  and_both true false h e = refl
  and_both false b h e = no h

  not_own : (a b : Bool) → b ≡ true → IsTrue (a && not b) → ⊥
  not_own true true e h = no h
  not_own false b e h = no h
  not_own true false e h = no e

  or_not : (a b : Bool) → IsTrue (a || not b) → a ≡ false → IsTrue b → ⊥
  or_not true b h e t = no (sym e)
  or_not false true h e t = no h
  or_not false false h e t = no t

  access_more : (c : Construct) → IsAccess (λ g. IsTrue (others g)) c → IsAccess (λ g. IsTrue (touching g)) c
  access_more (Calls g) u = and_left (touching g) (not (bytes_eq (codes "worker") g)) u
  access_more (Uses x) u = tt
  access_more Prints u = u
  access_more Relaxes u = u
  access_more OpensOuter u = u
  access_more Cancels u = u
  access_more CancelsOuter u = u

  not_bare : (s : Site) (c : Construct) → AreMet (demands_at touching s c) → s.in_any ≡ false → IsAccess (λ g. IsTrue (touching g)) c → ⊥
  not_bare s (Uses x) h e u = no (sym e ∙ is_met 50 s.span s.in_any h)
  not_bare s (Calls g) h e u = or_not s.in_any (touching g) (is_met 51 s.span (s.in_any || not (touching g)) h) e u
  not_bare s Prints h e u = u
  not_bare s Relaxes h e u = u
  not_bare s OpensOuter h e u = u
  not_bare s Cancels h e u = u
  not_bare s CancelsOuter h e u = u

  none_bare : (ss : List Site) (s : Site) → AreMet (separation_demands touching ss) → Contains ss s → Touches (λ g. IsTrue (touching g)) s → ⊥
  none_bare [] s h c u = omega (arith, c.1)
  none_bare (t ∷ ss) s h c u =
      let own = demands_at touching t t.construct in
      elim (Contains-append_cases (t ∷ []) ss s c) [
        | inl d ↦ (let v = subst (Touches (λ g. IsTrue (touching g))) (only t s d) u in not_bare t t.construct (met_before own (separation_demands touching ss) h) v.0 v.1)
        | inr d ↦ none_bare ss s (met_behind own (separation_demands touching ss) h) d u
      ]

  others_by : (f : List ℕ) (s : Site) → Contains (sites_of p f) s → Touches (λ g. IsTrue (others g)) s → (b : Bool) → bytes_eq (codes "worker") f ≡ b → IsTrue (others f)
  others_by f s c u true e =
      absurd (none_bare (sites_of p (codes "worker")) s (all_met (separation_demands touching (sites_of p (codes "worker"))) met)
      (subst (λ x. Contains (sites_of p x) s) (sym ((bytes_eq-Decides (codes "worker") f).0 e)) c) (u.0, access_more s.construct u.1))
  others_by f s c u false e =
      and_both (touching f) (bytes_eq (codes "worker") f) (closed_all f s c (u.0, access_more s.construct u.1)) e
    where
      closed_all : (f : List ℕ) (s : Site) → Contains (sites_of p f) s → Touches (λ g. IsTrue (touching g)) s → IsTrue (touching f)
      closed_all f s c u = (tells f).1 (λ set t. t f s c (u.0, larger set t s.construct u.1))
        where
          larger : (set : FunctionSet) → IsTouchingSet p (λ g. IsTrue (set g)) → (c : Construct) → IsAccess (λ g. IsTrue (touching g)) c → IsAccess (λ g. IsTrue (set g)) c
          larger set t (Calls g) u = (tells g).0 u set t
          larger set t (Uses x) u = tt
          larger set t Prints u = u
          larger set t Relaxes u = u
          larger set t OpensOuter u = u
          larger set t Cancels u = u
          larger set t CancelsOuter u = u

  pub worker_separate : IsTouching p (codes "worker") → ⊥
  worker_separate t =
      not_own (touching (codes "worker")) (bytes_eq (codes "worker") (codes "worker")) ((bytes_eq-Decides (codes "worker") (codes "worker")).1 refl)
      (t others (λ f s c u. others_by f s c u (bytes_eq (codes "worker") f) refl))

-- a program that is typed and safe, with no unmet demand, is accepted
pub accepted : (p : Program) → IsTypedProgram p → ∥ IsSafeProgram p ∥₁ → (touching : FunctionSet) → TellsTouching p touching → None ≡ first_unmet (separation_demands touching (sites_of p (codes "worker"))) → ∥ IsAccepted p ∥₁
accepted p typed safe touching tells met = ∥∥₁_elim safe (hlevel) (λ s. ∣ record { typed = typed; safe = s; separate = worker_separate p touching tells met } ∣₁)
