-- A typed program of which every demand of safety is met is safe.
use Rattle.std.proofs.Common.{◌≡◌, refl, arith, sym, ap, subst, ◌∙◌, inl, inr, ℕ, List, [], ◌∷◌, ◌++◌, Option, Some, None, Bool, true, false, IsTrue, All}
use Rattle.std.specs.Prelude.{not, ◌||◌, is_none, is_some, bytes_eq, Contains, codes, if◌then◌else◌}
use Rattle.std.specs.List.{flat_map}
use Rattle.std.proofs.lemmas.List.Elements.{All-nil, All-cons, All-append}
use Rattle.std.proofs.lemmas.Slice.Eq.{bytes_eq-Decides}
use Rattle.syntax.specs.declared.tree.Attribute.TheVariants.{Safe}
use Rattle.syntax.specs.Tree.{Item, Defines, Shares, Program, Stmts}
use Rattle.syntax.specs.Names.{definition_or, definition_of}
use Rattle.syntax.specs.Types.{file_scope}
use Rattle.syntax.specs.Typing.{demand, first_unmet, is_unknown, is_worker, IsTypedItem, IsTypedFunction, AreTypedItems, AreDefined, IsTypedProgram}
use Rattle.syntax.proofs.typing.Demands.{AreMet, all_met, none_unmet, met_before, met_behind, is_met}
use Rattle.types.proofs.Items.{AllDefined, all_defined_function, all_defined_shared, first_prototype}
use Rattle.safety.specs.Sites.{Construct, Prints, Relaxes, OpensOuter, Cancels, CancelsOuter, Calls, Uses, Site, body_sites, sites_of, attributes_of}
use Rattle.safety.specs.Safe.{FunctionSet, TellsSafe, TellsOuter, IsSafeConstruct, IsSafe, Opens, LeadsToOuter, IsSafeProgram}
use Rattle.safety.specs.Faults.{demands_at, says_safe, function_demands, item_demands, safety_demands}
use Rattle.safety.proofs.Unsafe.{by_name, safe_contained}

no : {X : Type 0} → false ≡ true → X
no e = absurd cc

no_and : (b : Bool) → IsTrue (not b) → b ≡ true → ⊥
no_and true h e = no h
no_and false h e = no e

or_right : (a b : Bool) → IsTrue (not a || b) → a ≡ true → IsTrue b
or_right true b h e = h
or_right false b h e = no e

-- what a safe program keeps to at a site
abbrev KeepsAs : Program → Site → Construct → Type 0
KeepsAs p s c =
    ((s.atomic ≡ true → IsSafeConstruct (IsSafe p) c) × (c ≡ Cancels → s.atomic ≡ true))
    × ((s.atomic ≡ true → Opens (LeadsToOuter p) c → ⊥) × (c ≡ CancelsOuter → s.outer ≡ true))

abbrev Keeps : Program → Site → Type 0
Keeps p s = KeepsAs p s s.construct

module _ (p : Program) (safe outer : FunctionSet) (tells : TellsSafe p safe) (leads : TellsOuter p outer) where
  keeps_as : (s : Site) (c : Construct) → AreMet (demands_at safe outer s c) → KeepsAs p s c
  keeps_as s Prints h = ((no_and s.atomic (is_met 40 s.span (not s.atomic) h), λ e. absurd cc), (λ e o. o, λ e. absurd cc))
  keeps_as s Relaxes h = ((no_and s.atomic (is_met 41 s.span (not s.atomic) h), λ e. absurd cc), (λ e o. o, λ e. absurd cc))
  keeps_as s OpensOuter h = ((λ e. tt, λ e. absurd cc), (λ e o. no_and s.atomic (is_met 44 s.span (not s.atomic) h) e, λ e. absurd cc))
  keeps_as s Cancels h = ((λ e. tt, λ e. is_met 42 s.span s.atomic h), (λ e o. o, λ e. absurd cc))
  keeps_as s CancelsOuter h = ((λ e. tt, λ e. absurd cc), (λ e o. o, λ e. is_met 45 s.span s.outer h))
  keeps_as s (Calls f) h =
      let first = demand 40 s.span (not s.atomic || safe f) in
      let second = demand 44 s.span (not s.atomic || not (outer f)) in (
        (λ e. (tells f).0 (or_right s.atomic (safe f) (is_met 40 s.span (not s.atomic || safe f) (met_before first second h)) e), λ e. absurd cc),
        (λ e o. no_and (outer f) (or_right s.atomic (not (outer f)) (is_met 44 s.span (not s.atomic || not (outer f)) (met_behind first second h)) e) ((leads f).1 o), λ e. absurd cc),
      )
  keeps_as s (Uses x) h = ((λ e. tt, λ e. absurd cc), (λ e o. o, λ e. absurd cc))

  sites_keep : (ss : List Site) → AreMet (flat_map (λ s. demands_at safe outer s s.construct) ss) → All (Keeps p) ss
  sites_keep [] h = All-nil (Keeps p)
  sites_keep (s ∷ ss) h =
      let own = demands_at safe outer s s.construct in
      let rest = flat_map (λ s. demands_at safe outer s s.construct) ss in
      All-cons (Keeps p) s ss (keeps_as s s.construct (met_before own rest h)) (sites_keep ss (met_behind own rest h))

  if_own : (b : Bool) (own : List Site) → All (Keeps p) own → All (Keeps p) (if b then own else [])
  if_own true own h = h
  if_own false own h = All-nil (Keeps p)

  items_keep : (items : List Item) (f : List ℕ) → AreMet (flat_map (item_demands p safe outer) items) → All (Keeps p) (sites_of items f)
  items_keep [] f h = All-nil (Keeps p)
  items_keep (Shares gs ∷ items) f h = items_keep items f h
  items_keep (Defines g ∷ items) f h =
      let own = body_sites g.parameters g.body in
      let claim = demand 43 g.name.span (is_none g.body || not (says_safe (attributes_of p g.name.text)) || safe g.name.text) in
      let here = met_before (function_demands p safe outer g) (flat_map (item_demands p safe outer) items) h in
      All-append (Keeps p) (if bytes_eq g.name.text f then own else []) (sites_of items f)
      (if_own (bytes_eq g.name.text f) own (sites_keep own (met_behind claim (flat_map (λ s. demands_at safe outer s s.construct) own) here)))
      (items_keep items f (met_behind (function_demands p safe outer g) (flat_map (item_demands p safe outer) items) h))

  claimed : (none says is : Bool) → IsTrue (none || not says || is) → none ≡ false → says ≡ true → IsTrue is
  claimed true says is h e g = no (sym e)
  claimed false true is h e g = h
  claimed false false is h e g = no g

  -- a definition of a function that is declared safe is safe
  definition_safe : (items : List Item) (f : List ℕ) → AreMet (flat_map (item_demands p safe outer) items) → is_some (definition_of items f) ≡ true → says_safe (attributes_of p f) ≡ true → IsTrue (safe f)
  definition_safe [] f h d says = no d
  definition_safe (Shares gs ∷ items) f h d says = definition_safe items f h d says
  definition_safe (Defines g ∷ items) f h d says = here (λ d. definition_safe items f (met_behind (function_demands p safe outer g) (flat_map (item_demands p safe outer) items) h) d says) g.body refl d
    where
      met : IsTrue (is_none g.body || not (says_safe (attributes_of p g.name.text)) || safe g.name.text)
      met =
          let claim = demand 43 g.name.span (is_none g.body || not (says_safe (attributes_of p g.name.text)) || safe g.name.text) in
          is_met 43 g.name.span (is_none g.body || not (says_safe (attributes_of p g.name.text)) || safe g.name.text)
          (met_before claim (flat_map (λ s. demands_at safe outer s s.construct) (body_sites g.parameters g.body)) (met_before (function_demands p safe outer g) (flat_map (item_demands p safe outer) items) h))

      own : (b : Stmts) → g.body ≡ Some b → g.name.text ≡ f → IsTrue (safe f)
      own b e same =
          let there : is_none g.body ≡ false = ap is_none e in
          subst (λ x. IsTrue (safe x)) same (claimed (is_none g.body) (says_safe (attributes_of p g.name.text)) (safe g.name.text) met there (subst (λ x. says_safe (attributes_of p x) ≡ true) (sym same) says))

      named : (is_some (definition_of items f) ≡ true → IsTrue (safe f)) → (b : Stmts) → g.body ≡ Some b → (t : Bool) → bytes_eq g.name.text f ≡ t → is_some (if t then Some (g, b) else definition_of items f) ≡ true → IsTrue (safe f)
      named rest b e true t d = own b e ((bytes_eq-Decides g.name.text f).0 t)
      named rest b e false t d = rest d

      here : (is_some (definition_of items f) ≡ true → IsTrue (safe f)) → (o : Option Stmts) → g.body ≡ o → is_some (definition_or g f o (definition_of items f)) ≡ true → IsTrue (safe f)
      here rest None e d = rest d
      here rest (Some b) e d = named rest b e (bytes_eq g.name.text f) refl d

-- each function that is declared is defined
module _ (p : Program) where
  own_defined : (a b : Bool) → ((b ≡ false) → (a || b) ≡ false) → IsTrue (a || b) → b ≡ true
  own_defined a true h m = refl
  own_defined a false h m = no (sym (h refl) ∙ m)

  declared_defined : (earlier items : List Item) (f : List ℕ) → AllDefined p earlier → AreMet (AreTypedItems earlier items) → AreMet (AreDefined p earlier items) → Contains (attributes_of items f) Safe → is_some (definition_of p f) ≡ true
  declared_defined earlier [] f all t d c = absurd (omega (arith, c.1))
  declared_defined earlier (Shares gs ∷ items) f all t d c =
      declared_defined (earlier ++ Shares gs ∷ []) items f (all_defined_shared p earlier gs all)
      (met_behind (IsTypedItem earlier (Shares gs)) (AreTypedItems (earlier ++ Shares gs ∷ []) items) t) d c
  declared_defined earlier (Defines g ∷ items) f all t d c =
      let typed = met_before (IsTypedFunction earlier g) (AreTypedItems (earlier ++ Defines g ∷ []) items) t in
      let unknown = is_unknown (file_scope earlier g.name.text) in
      let has = is_some (definition_of p g.name.text) in
      let own = demand 29 g.name.span (not unknown || has) in
      let here : has ≡ true = own_defined (not unknown) has (first_prototype p earlier g (none_unmet (IsTypedFunction earlier g) typed) all)
      (is_met 29 g.name.span (not unknown || has) (met_before own (AreDefined p (earlier ++ Defines g ∷ []) items) d)) in
      elim (by_name g.name.text f g.attributes (attributes_of items f) Safe c) [
        | inl e ↦ subst (λ x. is_some (definition_of p x) ≡ true) e.0 here
        | inr e ↦ declared_defined (earlier ++ Defines g ∷ []) items f (all_defined_function p earlier g here all)
            (met_behind (IsTypedFunction earlier g) (AreTypedItems (earlier ++ Defines g ∷ []) items) t)
            (met_behind own (AreDefined p (earlier ++ Defines g ∷ []) items) d) e
      ]

  none_defined : AllDefined p []
  none_defined x e = no e

  pub met_is_safe : IsTypedProgram p → (safe outer : FunctionSet) → TellsSafe p safe → TellsOuter p outer → None ≡ first_unmet (safety_demands p safe outer) → IsSafeProgram p
  met_is_safe typed safe outer tells leads none =
      let met = all_met (safety_demands p safe outer) none in
      let worker = demand 28 (record { start = 0; end = 0 }) (is_worker (file_scope p (codes "worker"))) in
      let both = met_before (AreTypedItems [] p ++ AreDefined p [] p) worker typed in
      record {
        atomic = λ f k d below. (items_keep p safe outer tells leads p f met k d below).0;
        outer = λ f k d below. (items_keep p safe outer tells leads p f met k d below).1;
        declared = λ f c. (tells f).0 (definition_safe p safe outer tells leads p f met
            (declared_defined [] p f none_defined (met_before (AreTypedItems [] p) (AreDefined p [] p) both) (met_behind (AreTypedItems [] p) (AreDefined p [] p) both) c)
            (safe_contained (attributes_of p f) c));
      }
