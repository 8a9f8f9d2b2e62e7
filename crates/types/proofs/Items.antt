-- One item more, and one global more.
use Rattle.std.proofs.Common.{◌≡◌, ℕ, ◌+◌, ◌<◌, List, [], ◌∷◌, ◌++◌, length, take, drop, get_or, map, Option, Some, None, Bool, true, false, not, ◌&&◌, ◌||◌, refl, sym, ap, ◌∙◌, is_some, if◌then◌else◌, bytes_eq, unwrap_or, option_map}
use Rattle.std.proofs.lemmas.List.{map-append}
use Rattle.std.specs.Prelude.{nat_le}
use Rattle.std.proofs.lemmas.List.{at_drop_more, take_more}
use Rattle.std.proofs.lemmas.Slice.Eq.{bytes_eq-Decides}
use Rattle.std.specs.Option.{option_or}
use Rattle.syntax.specs.declared.tree.Item as OwnItem
use Rattle.syntax.specs.declared.tree.Global as OwnGlobal
use Rattle.syntax.specs.Tree.{Span, Scalar, Function, Global, Item, Defines, Shares, Program}
use Rattle.syntax.specs.Views.{item_of, global_of}
use Rattle.syntax.specs.Names.{cells, definition_of}
use Rattle.syntax.specs.Types.{Known, Unknown, Number, Array, Callable, file_scope, known_among, known_function}
use Rattle.syntax.specs.Typing.{is_unknown, may_be_function}
use Rattle.syntax.specs.Typing.{Demand, first_unmet, demand, IsLength, HaveCells, AreTypedGlobals, IsTypedFunction, IsTypedItem, AreTypedItems, AreDefined}
use Rattle.types.proofs.Steps.{first_of_two}
use Rattle.types.proofs.AllMet.{met_first}
use Rattle.syntax.proofs.typing.ValueTypes.{scope_append, or_known}

-- one global's demands
abbrev pub IsTypedGlobal : List Item → List Global → ℕ → Global → List Demand
IsTypedGlobal earlier before taken g =
    demand 21 g.name.span (is_unknown (file_scope (earlier ++ Shares before ∷ []) g.name.text))
    ++ IsLength g.length
    ++ HaveCells (drop (cells g) g.first)
    ++ demand 25 g.name.span (nat_le (taken + cells g) 4096)

module _ {A : Type 0} (gs : List (OwnGlobal.Global A)) (i : ℕ) (g : OwnGlobal.Global A) (is : g ≡ get_or gs i g) (less : i < length gs) where
  pub globals_taken : map global_of (take (i + 1) gs) ≡ map global_of (take i gs) ++ global_of g ∷ []
  globals_taken = ap (map global_of) (take_more gs i g less) ∙ map-append global_of (take i gs) (get_or gs i g ∷ []) ∙ ap (λ x. map global_of (take i gs) ++ global_of x ∷ []) (sym is)

  pub globals_more : (earlier : List Item) (taken : ℕ) → first_unmet (AreTypedGlobals earlier (map global_of (take i gs)) taken (map global_of (drop i gs))) ≡ option_or (first_unmet (IsTypedGlobal earlier (map global_of (take i gs)) taken (global_of g))) (first_unmet (AreTypedGlobals earlier (map global_of (take (i + 1) gs)) (taken + cells (global_of g)) (map global_of (drop (i + 1) gs))))
  globals_more earlier taken =
      let before = map global_of (take i gs) in
      let rest = map global_of (drop (i + 1) gs) in
      at_drop_more (λ xs. first_unmet (AreTypedGlobals earlier before taken (map global_of xs))) gs i g less
      ∙ ap (λ x. first_unmet (AreTypedGlobals earlier before taken (map global_of (x ∷ drop (i + 1) gs)))) (sym is)
      ∙ first_of_two (IsTypedGlobal earlier before taken (global_of g)) (AreTypedGlobals earlier (before ++ global_of g ∷ []) (taken + cells (global_of g)) rest)
      ∙ ap (λ b. option_or (first_unmet (IsTypedGlobal earlier before taken (global_of g))) (first_unmet (AreTypedGlobals earlier b (taken + cells (global_of g)) rest))) (sym globals_taken)

module _ {A : Type 0} (xs : List (OwnItem.Item A)) (i : ℕ) (d : OwnItem.Item A) (is : d ≡ get_or xs i d) (less : i < length xs) where
  pub items_taken : map item_of (take (i + 1) xs) ≡ map item_of (take i xs) ++ item_of d ∷ []
  items_taken = ap (map item_of) (take_more xs i d less) ∙ map-append item_of (take i xs) (get_or xs i d ∷ []) ∙ ap (λ x. map item_of (take i xs) ++ item_of x ∷ []) (sym is)

  pub items_more : first_unmet (AreTypedItems (map item_of (take i xs)) (map item_of (drop i xs))) ≡ option_or (first_unmet (IsTypedItem (map item_of (take i xs)) (item_of d))) (first_unmet (AreTypedItems (map item_of (take (i + 1) xs)) (map item_of (drop (i + 1) xs))))
  items_more =
      let before = map item_of (take i xs) in
      let rest = map item_of (drop (i + 1) xs) in
      at_drop_more (λ ys. first_unmet (AreTypedItems before (map item_of ys))) xs i d less
      ∙ ap (λ x. first_unmet (AreTypedItems before (map item_of (x ∷ drop (i + 1) xs)))) (sym is)
      ∙ first_of_two (IsTypedItem before (item_of d)) (AreTypedItems (before ++ item_of d ∷ []) rest)
      ∙ ap (λ b. option_or (first_unmet (IsTypedItem before (item_of d))) (first_unmet (AreTypedItems b rest))) (sym items_taken)

  -- whether what is declared is defined
  pub defined_more : (p : Program) (f : Function) → item_of d ≡ Defines f → first_unmet (AreDefined p (map item_of (take i xs)) (map item_of (drop i xs))) ≡ option_or (first_unmet (demand 29 f.name.span (not (is_unknown (file_scope (map item_of (take i xs)) f.name.text)) || is_some (definition_of p f.name.text)))) (first_unmet (AreDefined p (map item_of (take (i + 1) xs)) (map item_of (drop (i + 1) xs))))
  defined_more p f e =
      let before = map item_of (take i xs) in
      let rest = map item_of (drop (i + 1) xs) in
      let here = demand 29 f.name.span (not (is_unknown (file_scope before f.name.text)) || is_some (definition_of p f.name.text)) in
      at_drop_more (λ ys. first_unmet (AreDefined p before (map item_of ys))) xs i d less
      ∙ ap (λ x. first_unmet (AreDefined p before (map item_of (x ∷ drop (i + 1) xs)))) (sym is)
      ∙ ap (λ x. first_unmet (AreDefined p before (x ∷ rest))) e
      ∙ first_of_two here (AreDefined p (before ++ Defines f ∷ []) rest)
      ∙ ap (λ b. option_or (first_unmet here) (first_unmet (AreDefined p b rest))) (ap (λ x. before ++ x ∷ []) (sym e) ∙ sym items_taken)

  pub shared_more : (p : Program) (gs : List Global) → item_of d ≡ Shares gs → first_unmet (AreDefined p (map item_of (take i xs)) (map item_of (drop i xs))) ≡ first_unmet (AreDefined p (map item_of (take (i + 1) xs)) (map item_of (drop (i + 1) xs)))
  shared_more p gs e =
      let before = map item_of (take i xs) in
      let rest = map item_of (drop (i + 1) xs) in
      at_drop_more (λ ys. first_unmet (AreDefined p before (map item_of ys))) xs i d less
      ∙ ap (λ x. first_unmet (AreDefined p before (map item_of (x ∷ drop (i + 1) xs)))) (sym is)
      ∙ ap (λ x. first_unmet (AreDefined p before (x ∷ rest))) e
      ∙ ap (λ b. first_unmet (AreDefined p b rest)) (ap (λ x. before ++ x ∷ []) (sym e) ∙ sym items_taken)

-- the functions that are known
abbrev pub is_callable : Known → Bool
is_callable (Callable r ts) = true
is_callable other = false

-- each function that these items make known is defined
abbrev pub AllDefined : Program → List Item → Type 0
AllDefined p items = (x : List ℕ) → is_callable (file_scope items x) ≡ true → is_some (definition_of p x) ≡ true

callable_or : (k last : Known) (c : Bool) → (is_callable k ≡ true → c ≡ true) → (is_callable last ≡ true → c ≡ true) → is_callable (or_known k last) ≡ true → c ≡ true
callable_or Unknown last c f g h = g h
callable_or (Number t) last c f g h = absurd cc
callable_or (Array t n) last c f g h = absurd cc
callable_or (Callable r ts) last c f g h = f h

callable_if : (b : Bool) (k : Known) → is_callable (if b then k else Unknown) ≡ true → b ≡ true
callable_if true k h = refl
callable_if false k h = absurd cc

global_not : (b : Bool) (length : Option (ℕ × Span)) (t : Scalar) (k : Known) → is_callable k ≡ false → is_callable (if b then unwrap_or (option_map (λ n. Array t n.0) length) (Number t) else k) ≡ false
global_not true None t k h = refl
global_not true (Some n) t k h = refl
global_not false length t k h = h

among_not : (gs : List Global) (x : List ℕ) → is_callable (known_among gs (file_scope []) x) ≡ false
among_not [] x = refl
among_not (g ∷ gs) x = global_not (bytes_eq g.name.text x) g.length g.ty (known_among gs (file_scope []) x) (among_not gs x)

module _ (p : Program) (earlier : List Item) where
  pub all_defined_function : (f : Function) → is_some (definition_of p f.name.text) ≡ true → AllDefined p earlier → AllDefined p (earlier ++ Defines f ∷ [])
  all_defined_function f has h = λ x c. callable_or (file_scope earlier x) (file_scope (Defines f ∷ []) x) (is_some (definition_of p x)) (h x) (λ here. ap (λ y. is_some (definition_of p y)) (sym ((bytes_eq-Decides f.name.text x).0 (callable_if (bytes_eq f.name.text x) (known_function f) here))) ∙ has) (ap is_callable (sym (scope_append earlier (Defines f ∷ []) x)) ∙ c)

  pub all_defined_shared : (gs : List Global) → AllDefined p earlier → AllDefined p (earlier ++ Shares gs ∷ [])
  all_defined_shared gs h = λ x c. callable_or (file_scope earlier x) (file_scope (Shares gs ∷ []) x) (is_some (definition_of p x)) (h x) (λ here. absurd (let not = among_not gs x in cc)) (ap is_callable (sym (scope_append earlier (Shares gs ∷ []) x)) ∙ c)

  and_first : (a b : Bool) → (a && b) ≡ true → a ≡ true
  and_first true b h = refl
  and_first false b h = absurd cc

  free_is : (k : Known) (c : Bool) → may_be_function k ≡ true → (is_callable k ≡ true → c ≡ true) → c ≡ false → (not (is_unknown k) || c) ≡ false
  free_is Unknown c m h e = e
  free_is (Number t) c m h e = absurd cc
  free_is (Array t n) c m h e = absurd cc
  free_is (Callable r ts) c m h e = absurd (let t = h refl in cc)

  -- a function that is not defined breaks the rule where it is first declared
  pub first_prototype : (f : Function) → None ≡ first_unmet (IsTypedFunction earlier f) → AllDefined p earlier → is_some (definition_of p f.name.text) ≡ false → (not (is_unknown (file_scope earlier f.name.text)) || is_some (definition_of p f.name.text)) ≡ false
  first_prototype f typed all missing =
      let k = file_scope earlier f.name.text in
      free_is k (is_some (definition_of p f.name.text)) (and_first (may_be_function k) _ (met_first _ _ _ typed).0) (all f.name.text) missing

-- what is met of two is met of each
pub none_first : (a b : Option (ℕ × Span)) → None ≡ option_or a b → None ≡ a
none_first None b h = refl
none_first (Some x) b h = h

pub none_rest : (a b : Option (ℕ × Span)) → None ≡ option_or a b → None ≡ b
none_rest None b h = h
none_rest (Some x) b h = absurd cc

-- whether a function is defined, as the rule of its first prototype asks
pub has_right : (p : Program) (earlier : List Item) (f : Function) (has : Bool) → has ≡ is_some (definition_of p f.name.text) → None ≡ first_unmet (IsTypedFunction earlier f) → AllDefined p earlier → has ≡ (not (is_unknown (file_scope earlier f.name.text)) || is_some (definition_of p f.name.text))
has_right p earlier f true is typed all = or_true (not (is_unknown (file_scope earlier f.name.text))) (is_some (definition_of p f.name.text)) is
  where
    or_true : (a b : Bool) → true ≡ b → true ≡ (a || b)
    or_true true b h = refl
    or_true false b h = h
has_right p earlier f false is typed all = sym (first_prototype p earlier f typed all (sym is))
