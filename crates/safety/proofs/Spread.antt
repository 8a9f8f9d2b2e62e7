-- A set that keeps to the links of sites has each function that a site leads into it; the least one has no other.
use Rattle.std.proofs.Common.{arith, refl, subst, inl, inr, ℕ, List, [], ◌∷◌, IsTrue}
use Rattle.std.specs.Prelude.{bytes_eq, Contains, Decides, if◌then◌else◌}
use Rattle.std.specs.List.{flat_map}
use Rattle.std.proofs.lemmas.List.Elements.{Contains-append_right, Contains-append_cases}
use Rattle.syntax.specs.Tree.{Item, Defines, Shares, Program}
use Rattle.safety.specs.Sites.{Site, body_sites, sites_of}
use Rattle.safety.specs.Safe.{FunctionSet}
use Rattle.safety.specs.Links.{Link, KeepsTo, IsLeast}
use Rattle.safety.specs.inner.SiteLinks.{site_links}
use Rattle.safety.proofs.Linked.{only, keeps_none, keeps_both, keeps_left, keeps_right}
use Rattle.safety.proofs.Unsafe.{by_name, own_name}

-- each function is in the set where one of these sites of it leads there
abbrev pub IsLed : (items : List Item) (Leads : Site → Type 0) (set : FunctionSet) → Type 0
IsLed items Leads set = (f : List ℕ) (s : Site) → Contains (sites_of items f) s → Leads s → IsTrue (set f)

module _ (own : List ℕ → Site → List Link) (set : FunctionSet) (Leads : Site → Type 0) where
  -- a site's links, where a set keeps to them, lead as the site does, and the other way round
  abbrev pub LinksLead : Type 0
  LinksLead = (f : List ℕ) (s : Site) → KeepsTo (own f s) set → Leads s → IsTrue (set f)

  abbrev pub LinksFollow : Type 0
  LinksFollow = (f : List ℕ) (s : Site) → (Leads s → IsTrue (set f)) → KeepsTo (own f s) set

  sites_in_set : LinksLead → (f : List ℕ) (ss : List Site) (s : Site) → KeepsTo (flat_map (own f) ss) set → Contains ss s → Leads s → IsTrue (set f)
  sites_in_set in_set f [] s h c u = absurd (omega (arith, c.1))
  sites_in_set in_set f (t ∷ ss) s h c u = elim (Contains-append_cases (t ∷ []) ss s c) [
    | inl d ↦ in_set f t (keeps_left set (own f t) (flat_map (own f) ss) h) (subst Leads (only t s d) u)
    | inr d ↦ sites_in_set in_set f ss s (keeps_right set (own f t) (flat_map (own f) ss) h) d u
  ]

  pub closed : LinksLead → (items : List Item) → KeepsTo (site_links own items) set → IsLed items Leads set
  closed in_set [] h f s c u = absurd (omega (arith, c.1))
  closed in_set (Shares gs ∷ items) h f s c u = closed in_set items h f s c u
  closed in_set (Defines g ∷ items) h f s c u =
      let sites = body_sites g.parameters g.body in
      let first = flat_map (own g.name.text) sites in
      elim (by_name g.name.text f sites (sites_of items f) s c) [
        | inl d ↦ subst (λ x. IsTrue (set x)) d.0 (sites_in_set in_set g.name.text sites s (keeps_left set first (site_links own items) h) d.1 u)
        | inr d ↦ closed in_set items (keeps_right set first (site_links own items) h) f s d u
      ]

  sites_keep : LinksFollow → (f : List ℕ) (ss : List Site) → ((s : Site) → Contains ss s → Leads s → IsTrue (set f)) → KeepsTo (flat_map (own f) ss) set
  sites_keep keep f [] h = keeps_none set
  sites_keep keep f (s ∷ ss) h =
      keeps_both set (own f s) (flat_map (own f) ss) (keep f s (h s (0, omega arith, refl)))
      (sites_keep keep f ss (λ t c. h t (Contains-append_right (s ∷ []) ss t c)))

  pub keeps : LinksFollow → (items : List Item) → IsLed items Leads set → KeepsTo (site_links own items) set
  keeps keep [] h = keeps_none set
  keeps keep (Shares gs ∷ items) h = keeps keep items h
  keeps keep (Defines g ∷ items) h =
      let name = g.name.text in
      let sites = body_sites g.parameters g.body in
      keeps_both set (flat_map (own name) sites) (site_links own items)
      (sites_keep keep name sites (λ s c. h name s (own_name name sites (sites_of items name) s c)))
      (keeps keep items (λ f s c. h f s (Contains-append_right (if bytes_eq name f then sites else []) (sites_of items f) s c)))

-- the least set that keeps to the links tells which functions all such sets have
pub tells_least : (own : List ℕ → Site → List Link) (Leads : FunctionSet → Site → Type 0) → ((set : FunctionSet) → LinksLead own set (Leads set)) → ((set : FunctionSet) → LinksFollow own set (Leads set)) → (p : Program) (set : FunctionSet) → IsLeast (site_links own p) set → (f : List ℕ) → Decides (set f) ((other : FunctionSet) → IsLed p (Leads other) other → IsTrue (other f))
tells_least own Leads in_set keep p set h f = (
  λ m other led. h.least other (keeps own other (Leads other) (keep other) p led) f m,
  λ t. t set (closed own set (Leads set) (in_set set) p h.keeps),
)
