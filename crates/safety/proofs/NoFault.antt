-- In a safe program every demand of safety is met.
use Rattle.std.proofs.Common.{◌≡◌, refl, arith, sym, ap, subst, ◌∙◌, ℕ, List, [], ◌∷◌, ◌++◌, append_assoc, Some, None, Bool, true, false, IsTrue, All}
use Rattle.std.specs.Prelude.{not, ◌||◌, is_none, bytes_eq, Contains, if◌then◌else◌}
use Rattle.std.specs.List.{flat_map}
use Rattle.std.proofs.lemmas.List.Elements.{All-nil, All-cons, All-head, All-tail, All-append, Contains-append_right}
use Rattle.std.proofs.lemmas.Slice.Eq.{bytes_eq-Decides}
use Rattle.lex.specs.declared.token.Span.{Span}
use Rattle.syntax.specs.declared.tree.Attribute.{Attribute}
use Rattle.syntax.specs.declared.tree.Attribute.TheVariants.{Safe, Unsafe, Callable}
use Rattle.syntax.specs.Tree.{Function, Item, Defines, Shares, Program}
use Rattle.syntax.specs.Typing.{demand}
use Rattle.syntax.proofs.typing.Demands.{AreMet, none_unmet}
use Rattle.safety.specs.Sites.{Construct, Prints, Relaxes, OpensOuter, Cancels, CancelsOuter, Calls, Uses, Site, body_sites, sites_of, attributes_of}
use Rattle.safety.specs.Safe.{FunctionSet, TellsSafe, TellsOuter, IsSafeConstruct, IsSafe, Opens, LeadsToOuter, KeepsAtomic, KeepsOuter, IsSafeProgram}
use Rattle.safety.specs.Faults.{demands_at, says_safe, function_demands, item_demands, safety_demands}
use Rattle.safety.specs.Laws.{SafeHasNoFault}
use Rattle.safety.proofs.Unsafe.{contains_safe}

one_met : (n : ℕ) (at : Span) (b : Bool) → IsTrue b → AreMet (demand n at b)
one_met n at b h = All-cons (λ d. IsTrue d.met) (record { number = n; span = at; met = b }) [] h (All-nil (λ d. IsTrue d.met))

-- what is not so where the one holds
never : (b : Bool) → (b ≡ true → ⊥) → IsTrue (not b)
never true h = absurd (h refl)
never false h = refl

or_else : (b c : Bool) → (b ≡ true → IsTrue c) → IsTrue (not b || c)
or_else true c h = h refl
or_else false c h = refl

-- what a safe program keeps to at a site
abbrev Keeps : Program → Site → Type 0
Keeps p s = KeepsAtomic p s × KeepsOuter p s

module _ (p : Program) (safe outer : FunctionSet) (tells : TellsSafe p safe) (leads : TellsOuter p outer) where
  site_met : (s : Site) (c : Construct) → (s.atomic ≡ true → IsSafeConstruct (IsSafe p) c) → (c ≡ Cancels → s.atomic ≡ true) → (s.atomic ≡ true → Opens (LeadsToOuter p) c → ⊥) → (c ≡ CancelsOuter → s.outer ≡ true) → AreMet (demands_at safe outer s c)
  site_met s Prints h cancel o far = one_met 40 s.span (not s.atomic) (never s.atomic h)
  site_met s Relaxes h cancel o far = one_met 41 s.span (not s.atomic) (never s.atomic h)
  site_met s OpensOuter h cancel o far = one_met 44 s.span (not s.atomic) (never s.atomic (λ e. o e tt))
  site_met s Cancels h cancel o far = one_met 42 s.span s.atomic (cancel refl)
  site_met s CancelsOuter h cancel o far = one_met 45 s.span s.outer (far refl)
  site_met s (Calls f) h cancel o far =
      All-append (λ d. IsTrue d.met) (demand 40 s.span (not s.atomic || safe f)) (demand 44 s.span (not s.atomic || not (outer f)))
      (one_met 40 s.span (not s.atomic || safe f) (or_else s.atomic (safe f) (λ e. (tells f).1 (h e))))
      (one_met 44 s.span (not s.atomic || not (outer f)) (or_else s.atomic (not (outer f)) (λ e. never (outer f) (λ t. o e ((leads f).0 t)))))
  site_met s (Uses x) h cancel o far = All-nil (λ d. IsTrue d.met)

  sites_met : (ss : List Site) → All (Keeps p) ss → AreMet (flat_map (λ s. demands_at safe outer s s.construct) ss)
  sites_met [] h = All-nil (λ d. IsTrue d.met)
  sites_met (s ∷ ss) h =
      let here = All-head (Keeps p) s ss h in
      All-append (λ d. IsTrue d.met) (demands_at safe outer s s.construct) (flat_map (λ s. demands_at safe outer s s.construct) ss) (site_met s s.construct here.0.0 here.0.1 here.1.0 here.1.1) (sites_met ss (All-tail (Keeps p) s ss h))

-- the sites of a function are those of its declarations, in order
sites_append : (earlier items : List Item) (f : List ℕ) → sites_of (earlier ++ items) f ≡ sites_of earlier f ++ sites_of items f
sites_append [] items f = refl
sites_append (Shares gs ∷ earlier) items f = sites_append earlier items f
sites_append (Defines g ∷ earlier) items f =
    let here = if bytes_eq g.name.text f then body_sites g.parameters g.body else [] in
    ap (λ ss. here ++ ss) (sites_append earlier items f) ∙ sym (append_assoc here (sites_of earlier f) (sites_of items f))

All-behind : {X : Type 0} (P : X → Type 0) (xs ys : List X) → All P (xs ++ ys) → All P ys
All-behind P [] ys h = h
All-behind P (x ∷ xs) ys h = All-behind P xs ys (All-tail P x (xs ++ ys) h)

All-before : {X : Type 0} (P : X → Type 0) (xs ys : List X) → All P (xs ++ ys) → All P xs
All-before P [] ys h = All-nil P
All-before P (x ∷ xs) ys h = All-cons P x xs (All-head P x (xs ++ ys) h) (All-before P xs ys (All-tail P x (xs ++ ys) h))

own_sites : (b : Bool) (here : List Site) (P : Site → Type 0) → b ≡ true → All P (if b then here else []) → All P here
own_sites true here P e h = h
own_sites false here P e h = absurd cc

promised : (none says is : Bool) → (says ≡ true → IsTrue is) → IsTrue (none || not says || is)
promised true says is h = refl
promised false true is h = h refl
promised false false is h = refl

module _ (p : Program) (safe outer : FunctionSet) (tells : TellsSafe p safe) (leads : TellsOuter p outer) (is_safe : IsSafeProgram p) where
  function_met : (earlier items : List Item) (f : Function) → p ≡ earlier ++ Defines f ∷ items → AreMet (function_demands p safe outer f)
  function_met earlier items f whole =
      let name = f.name.text in
      let own = body_sites f.parameters f.body in
      let is : bytes_eq name name ≡ true = (bytes_eq-Decides name name).1 refl in
      let all : All (Keeps p) (sites_of (earlier ++ Defines f ∷ items) name) = subst (λ q. All (Keeps p) (sites_of q name)) whole (λ k d below. (is_safe.atomic name k d below, is_safe.outer name k d below)) in
      let split : All (Keeps p) (sites_of earlier name ++ sites_of (Defines f ∷ items) name) = subst (All (Keeps p)) (sites_append earlier (Defines f ∷ items) name) all in
      let behind = All-behind (Keeps p) (sites_of earlier name) (sites_of (Defines f ∷ items) name) split in
      let sites = own_sites (bytes_eq name name) own (Keeps p) is (All-before (Keeps p) (if bytes_eq name name then own else []) (sites_of items name) behind) in
      let promise = promised (is_none f.body) (says_safe (attributes_of p name)) (safe name) (λ e. (tells name).1 (is_safe.declared name (contains_safe (attributes_of p name) e))) in
      All-append (λ d. IsTrue d.met) (demand 43 f.name.span (is_none f.body || not (says_safe (attributes_of p name)) || safe name)) (flat_map (λ s. demands_at safe outer s s.construct) own)
      (one_met 43 f.name.span (is_none f.body || not (says_safe (attributes_of p name)) || safe name) promise) (sites_met p safe outer tells leads own sites)

  items_met : (earlier items : List Item) → p ≡ earlier ++ items → AreMet (flat_map (item_demands p safe outer) items)
  items_met earlier [] whole = All-nil (λ d. IsTrue d.met)
  items_met earlier (Shares gs ∷ items) whole = items_met (earlier ++ Shares gs ∷ []) items (whole ∙ sym (append_assoc earlier (Shares gs ∷ []) items))
  items_met earlier (Defines f ∷ items) whole =
      All-append (λ d. IsTrue d.met) (function_demands p safe outer f) (flat_map (item_demands p safe outer) items)
      (function_met earlier items f whole) (items_met (earlier ++ Defines f ∷ []) items (whole ∙ sym (append_assoc earlier (Defines f ∷ []) items)))

nothing_is : {A : Type 0} (x : A) → None ≡ Some x → ⊥
nothing_is x e = cc

pub no_fault : SafeHasNoFault
no_fault p is_safe n at (safe, outer, tells, leads, first) = nothing_is (n, at) (none_unmet (safety_demands p safe outer) (items_met p safe outer tells leads is_safe [] p refl) ∙ first)
