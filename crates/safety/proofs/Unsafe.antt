-- The least set that keeps to the links of unsafe functions tells which are safe.
use Rattle.std.proofs.Common.{◌≡◌, refl, arith, sym, subst, ◌⊎◌, inl, inr, ℕ, List, [], ◌∷◌, ◌++◌, get_or, Some, Bool, true, false, IsTrue}
use Rattle.std.specs.Prelude.{not, bytes_eq, Contains, if◌then◌else◌}
use Rattle.std.specs.List.{flat_map}
use Rattle.std.proofs.lemmas.List.Elements.{All-contains, All-contains_itself, Contains-append_left, Contains-append_right, Contains-append_cases}
use Rattle.std.proofs.lemmas.Slice.Eq.{bytes_eq-Decides}
use Rattle.syntax.specs.declared.tree.Attribute.{Attribute}
use Rattle.syntax.specs.declared.tree.Attribute.TheVariants.{Safe, Unsafe, Callable}
use Rattle.syntax.specs.Tree.{Item, Defines, Shares, Program}
use Rattle.safety.specs.Sites.{Construct, Prints, Relaxes, OpensOuter, Cancels, CancelsOuter, Calls, Uses, Site, body_sites, sites_of, attributes_of}
use Rattle.safety.specs.Safe.{FunctionSet, TellsSafe, IsSafeConstruct}
use Rattle.safety.specs.Faults.{says_safe}
use Rattle.safety.specs.Links.{KeepsTo, IsLeast}
use Rattle.safety.specs.inner.UnsafeLinks.{says_unsafe, construct_links, unsafe_at, unsafe_links, safe_links}
use Rattle.safety.specs.SiteLinks.{link_if}
use Rattle.safety.proofs.Linked.{only, keeps_none, keeps_one, keeps_both, keeps_left, keeps_right, keeps_if, in_set_if}

pub contains_unsafe : (all : List Attribute) → says_unsafe all ≡ true → Contains all Unsafe
contains_unsafe [] h = absurd cc
contains_unsafe (Unsafe ∷ rest) h = (0, omega arith, refl)
contains_unsafe (Safe ∷ rest) h = Contains-append_right (Safe ∷ []) rest Unsafe (contains_unsafe rest h)
contains_unsafe (Callable ∷ rest) h = Contains-append_right (Callable ∷ []) rest Unsafe (contains_unsafe rest h)

attribute_is : (a b : Attribute) (rest : List Attribute) → Contains (a ∷ rest) b → (b ≡ a) ⊎ Contains rest b
attribute_is a b rest c = elim (Contains-append_cases (a ∷ []) rest b c) [ inl d ↦ inl (only a b d) | inr d ↦ inr d ]

pub unsafe_contained : (all : List Attribute) → Contains all Unsafe → says_unsafe all ≡ true
unsafe_contained [] c = absurd (omega (arith, c.1))
unsafe_contained (Unsafe ∷ rest) c = refl
unsafe_contained (Safe ∷ rest) c = elim (attribute_is Safe Unsafe rest c) [ inl e ↦ absurd cc | inr d ↦ unsafe_contained rest d ]
unsafe_contained (Callable ∷ rest) c = elim (attribute_is Callable Unsafe rest c) [ inl e ↦ absurd cc | inr d ↦ unsafe_contained rest d ]

pub safe_contained : (all : List Attribute) → Contains all Safe → says_safe all ≡ true
safe_contained [] c = absurd (omega (arith, c.1))
safe_contained (Safe ∷ rest) c = refl
safe_contained (Unsafe ∷ rest) c = elim (attribute_is Unsafe Safe rest c) [ inl e ↦ absurd cc | inr d ↦ safe_contained rest d ]
safe_contained (Callable ∷ rest) c = elim (attribute_is Callable Safe rest c) [ inl e ↦ absurd cc | inr d ↦ safe_contained rest d ]

pub contains_safe : (all : List Attribute) → says_safe all ≡ true → Contains all Safe
contains_safe [] h = absurd cc
contains_safe (Safe ∷ rest) h = (0, omega arith, refl)
contains_safe (Unsafe ∷ rest) h = Contains-append_right (Unsafe ∷ []) rest Safe (contains_safe rest h)
contains_safe (Callable ∷ rest) h = Contains-append_right (Callable ∷ []) rest Safe (contains_safe rest h)

-- what a function has by its name stands in a declaration of that name
pub by_name : {X : Type 0} (a b : List ℕ) (own rest : List X) (x : X) → Contains ((if bytes_eq a b then own else []) ++ rest) x → ((a ≡ b) × Contains own x) ⊎ Contains rest x
by_name a b own rest x c = here (bytes_eq a b) refl (Contains-append_cases (if bytes_eq a b then own else []) rest x c)
  where
    here : (t : Bool) → bytes_eq a b ≡ t → Contains (if t then own else []) x ⊎ Contains rest x → ((a ≡ b) × Contains own x) ⊎ Contains rest x
    here true e (inl d) = inl ((bytes_eq-Decides a b).0 e, d)
    here false e (inl d) = absurd (omega (arith, d.1))
    here t e (inr d) = inr d

pub own_name : {X : Type 0} (a : List ℕ) (own rest : List X) (x : X) → Contains own x → Contains ((if bytes_eq a a then own else []) ++ rest) x
own_name a own rest x c = Contains-append_left (if bytes_eq a a then own else []) rest x (here (bytes_eq a a) ((bytes_eq-Decides a a).1 refl))
  where
    here : (t : Bool) → t ≡ true → Contains (if t then own else []) x
    here true e = c
    here false e = absurd cc

-- unsafe, where these functions are
abbrev IsUnsafeIn : FunctionSet → Construct → Type 0
IsUnsafeIn set Prints = Unit {0}
IsUnsafeIn set Relaxes = Unit {0}
IsUnsafeIn set (Calls f) = IsTrue (set f)
IsUnsafeIn set c = ⊥

module _ (set : FunctionSet) where
  construct_in_set : (f : List ℕ) (c : Construct) → KeepsTo (construct_links f c) set → IsUnsafeIn set c → IsTrue (set f)
  construct_in_set f Prints h u = in_set_if set true f h refl
  construct_in_set f Relaxes h u = in_set_if set true f h refl
  construct_in_set f (Calls g) h u = h (record { caller = f; callee = Some g }) (0, omega arith, refl) u
  construct_in_set f OpensOuter h u = absurd u
  construct_in_set f Cancels h u = absurd u
  construct_in_set f CancelsOuter h u = absurd u
  construct_in_set f (Uses x) h u = absurd u

  sites_in_set : (f : List ℕ) (ss : List Site) (s : Site) → KeepsTo (flat_map (unsafe_at f) ss) set → Contains ss s → IsUnsafeIn set s.construct → IsTrue (set f)
  sites_in_set f [] s h c u = absurd (omega (arith, c.1))
  sites_in_set f (t ∷ ss) s h c u = elim (Contains-append_cases (t ∷ []) ss s c) [
    | inl d ↦ construct_in_set f t.construct (keeps_left set (construct_links f t.construct) (flat_map (unsafe_at f) ss) h) (subst (λ r. IsUnsafeIn set r.construct) (only t s d) u)
    | inr d ↦ sites_in_set f ss s (keeps_right set (construct_links f t.construct) (flat_map (unsafe_at f) ss) h) d u
  ]

  -- a set that keeps to the links has each function with anything unsafe
  attributes_closed : (items : List Item) (f : List ℕ) → KeepsTo (unsafe_links items) set → Contains (attributes_of items f) Unsafe → IsTrue (set f)
  attributes_closed [] f h c = absurd (omega (arith, c.1))
  attributes_closed (Shares gs ∷ items) f h c = attributes_closed items f h c
  attributes_closed (Defines g ∷ items) f h c =
      let first = link_if (says_unsafe g.attributes) g.name.text in
      let own = flat_map (unsafe_at g.name.text) (body_sites g.parameters g.body) in
      elim (by_name g.name.text f g.attributes (attributes_of items f) Unsafe c) [
        | inl d ↦ subst (λ x. IsTrue (set x)) d.0 (in_set_if set (says_unsafe g.attributes) g.name.text (keeps_left set first own (keeps_left set (first ++ own) (unsafe_links items) h)) (unsafe_contained g.attributes d.1))
        | inr d ↦ attributes_closed items f (keeps_right set (first ++ own) (unsafe_links items) h) d
      ]

  sites_closed : (items : List Item) (f : List ℕ) (s : Site) → KeepsTo (unsafe_links items) set → Contains (sites_of items f) s → IsUnsafeIn set s.construct → IsTrue (set f)
  sites_closed [] f s h c u = absurd (omega (arith, c.1))
  sites_closed (Shares gs ∷ items) f s h c u = sites_closed items f s h c u
  sites_closed (Defines g ∷ items) f s h c u =
      let first = link_if (says_unsafe g.attributes) g.name.text in
      let own = flat_map (unsafe_at g.name.text) (body_sites g.parameters g.body) in
      elim (by_name g.name.text f (body_sites g.parameters g.body) (sites_of items f) s c) [
        | inl d ↦ subst (λ x. IsTrue (set x)) d.0 (sites_in_set g.name.text (body_sites g.parameters g.body) s (keeps_right set first own (keeps_left set (first ++ own) (unsafe_links items) h)) d.1 u)
        | inr d ↦ sites_closed items f s (keeps_right set (first ++ own) (unsafe_links items) h) d u
      ]

not_both : (b : Bool) → IsTrue b → IsTrue (not b) → ⊥
not_both true h k = absurd (no k)
  where
    no : false ≡ true → ⊥
    no e = cc
not_both false h k = absurd (no h)
  where
    no : false ≡ true → ⊥
    no e = cc

unless : (b : Bool) → (IsTrue b → ⊥) → IsTrue (not b)
unless true h = absurd (h refl)
unless false h = refl

-- what no function of a safe set has, keeps to the links
module _ (set : FunctionSet) where
  abbrev rest_of : FunctionSet
  rest_of f = not (set f)

  construct_keeps : (f : List ℕ) (c : Construct) → (IsTrue (set f) → IsSafeConstruct (λ g. IsTrue (set g)) c) → KeepsTo (construct_links f c) rest_of
  construct_keeps f Prints h = keeps_if rest_of true f (λ e. unless (set f) h)
  construct_keeps f Relaxes h = keeps_if rest_of true f (λ e. unless (set f) h)
  construct_keeps f (Calls g) h = keeps_one rest_of (record { caller = f; callee = Some g }) (λ u. unless (set f) (λ k. not_both (set g) (h k) u))
  construct_keeps f OpensOuter h = keeps_none rest_of
  construct_keeps f Cancels h = keeps_none rest_of
  construct_keeps f CancelsOuter h = keeps_none rest_of
  construct_keeps f (Uses x) h = keeps_none rest_of

  sites_keep : (f : List ℕ) (ss : List Site) → ((s : Site) → Contains ss s → IsTrue (set f) → IsSafeConstruct (λ g. IsTrue (set g)) s.construct) → KeepsTo (flat_map (unsafe_at f) ss) rest_of
  sites_keep f [] h = keeps_none rest_of
  sites_keep f (s ∷ ss) h = keeps_both rest_of (construct_links f s.construct) (flat_map (unsafe_at f) ss) (construct_keeps f s.construct (h s (0, omega arith, refl))) (sites_keep f ss (λ t c. h t (Contains-append_right (s ∷ []) ss t c)))

  abbrev AreSafe : List Item → Type 0
  AreSafe items = (f : List ℕ) → IsTrue (set f) → (Contains (attributes_of items f) Unsafe → ⊥) × ((s : Site) → Contains (sites_of items f) s → IsSafeConstruct (λ g. IsTrue (set g)) s.construct)

  items_keep : (items : List Item) → AreSafe items → KeepsTo (unsafe_links items) rest_of
  items_keep [] h = keeps_none rest_of
  items_keep (Shares gs ∷ items) h = items_keep items h
  items_keep (Defines g ∷ items) h =
      let name = g.name.text in
      let sites = body_sites g.parameters g.body in
      let first = link_if (says_unsafe g.attributes) name in
      keeps_both rest_of (first ++ flat_map (unsafe_at name) sites) (unsafe_links items)
      (keeps_both rest_of first (flat_map (unsafe_at name) sites)
      (keeps_if rest_of (says_unsafe g.attributes) name (λ e. unless (set name) (λ k. (h name k).0 (own_name name g.attributes (attributes_of items name) Unsafe (contains_unsafe g.attributes e)))))
      (sites_keep name sites (λ s c k. (h name k).1 s (own_name name sites (sites_of items name) s c))))
      (items_keep items (λ f k. (
        λ c. (h f k).0 (Contains-append_right (if bytes_eq name f then g.attributes else []) (attributes_of items f) Unsafe c),
        λ s c. (h f k).1 s (Contains-append_right (if bytes_eq name f then sites else []) (sites_of items f) s c),
      )))

-- safe for the rest, where it is not unsafe
safe_rest : (set : FunctionSet) (c : Construct) → (IsUnsafeIn set c → ⊥) → IsSafeConstruct (λ g. IsTrue (not (set g))) c
safe_rest set Prints h = h tt
safe_rest set Relaxes h = h tt
safe_rest set OpensOuter h = tt
safe_rest set Cancels h = tt
safe_rest set CancelsOuter h = tt
safe_rest set (Calls f) h = unless (set f) h
safe_rest set (Uses x) h = tt

pub tells_safe : (p : Program) (set : FunctionSet) → IsLeast (unsafe_links p) set → TellsSafe p (λ f. not (set f))
tells_safe p set h f = (
  λ m. (
    λ g. not (set g),
    m,
    λ g k. (
      λ c. not_both (set g) (attributes_closed set p g h.keeps c) k,
      λ n d less. safe_rest set (get_or (sites_of p g) n d).construct (λ u. not_both (set g) (sites_closed set p g (get_or (sites_of p g) n d) h.keeps (All-contains_itself (sites_of p g) n d less) u) k),
    ),
  ),
  λ (s, member, closed). unless (set f) (λ m. not_both (s f) member (h.least (λ g. not (s g)) (items_keep s p (λ g k. ((closed g k).0, λ t c. All-contains (λ x. IsSafeConstruct (λ y. IsTrue (s y)) x.construct) (sites_of p g) t (closed g k).1 c))) f m)),
)

-- the functions that are declared safe
claims_in_set : (set : FunctionSet) (items : List Item) (f : List ℕ) → KeepsTo (safe_links items) set → says_safe (attributes_of items f) ≡ true → IsTrue (set f)
claims_in_set set items f h e = by items h (contains_safe (attributes_of items f) e)
  where
    by : (items : List Item) → KeepsTo (safe_links items) set → Contains (attributes_of items f) Safe → IsTrue (set f)
    by [] h c = absurd (omega (arith, c.1))
    by (Shares gs ∷ items) h c = by items h c
    by (Defines g ∷ items) h c =
        let first = link_if (says_safe g.attributes) g.name.text in
        elim (by_name g.name.text f g.attributes (attributes_of items f) Safe c) [
          | inl d ↦ subst (λ x. IsTrue (set x)) d.0 (in_set_if set (says_safe g.attributes) g.name.text (keeps_left set first (safe_links items) h) (safe_contained g.attributes d.1))
          | inr d ↦ by items (keeps_right set first (safe_links items) h) d
        ]

claims_keep : (set : FunctionSet) (items : List Item) → ((f : List ℕ) → Contains (attributes_of items f) Safe → IsTrue (set f)) → KeepsTo (safe_links items) set
claims_keep set [] h = keeps_none set
claims_keep set (Shares gs ∷ items) h = claims_keep set items h
claims_keep set (Defines g ∷ items) h =
    let name = g.name.text in
    keeps_both set (link_if (says_safe g.attributes) name) (safe_links items)
    (keeps_if set (says_safe g.attributes) name (λ e. h name (own_name name g.attributes (attributes_of items name) Safe (contains_safe g.attributes e))))
    (claims_keep set items (λ f c. h f (Contains-append_right (if bytes_eq name f then g.attributes else []) (attributes_of items f) Safe c)))

same_truth : (a b : Bool) → (IsTrue a → IsTrue b) → (IsTrue b → IsTrue a) → a ≡ b
same_truth true b h k = sym (h refl)
same_truth false true h k = k refl
same_truth false false h k = refl

pub tells_claims : (p : Program) (set : FunctionSet) → IsLeast (safe_links p) set → (f : List ℕ) → set f ≡ says_safe (attributes_of p f)
tells_claims p set h f = same_truth (set f) (says_safe (attributes_of p f))
    (h.least (λ g. says_safe (attributes_of p g)) (claims_keep (λ g. says_safe (attributes_of p g)) p (λ g c. safe_contained (attributes_of p g) c)) f)
    (claims_in_set set p f h.keeps)
