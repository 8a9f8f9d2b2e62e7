-- What is known after one item more, or one global more.
use Rattle.std.proofs.Common.{◌≡◌, ℕ, ◌+◌, List, [], ◌∷◌, ◌++◌, Option, Some, None, Bool, true, false, refl, sym, ap, ◌∙◌, arith, if◌then◌else◌, ◌||◌, option_map, unwrap_or, bytes_eq, is_some}
use Rattle.std.proofs.lemmas.Slice.Eq.{bytes_eq-Decides}
use Rattle.syntax.specs.Tree.{Span, Scalar, Function, Global, Item, Defines, Shares, Stmts}
use Rattle.syntax.specs.Names.{definition_of, definition_or}
use Rattle.syntax.specs.Types.{Known, Unknown, Number, Array, Callable, Scope, file_scope, known_among, known_global, known_function}
use Rattle.syntax.specs.Typing.{is_unknown, has_name, defined_names, all_cells}
use Rattle.syntax.proofs.typing.ValueTypes.{or_known, among_known, scope_append}

or_unknown : (k : Known) → or_known k Unknown ≡ k
or_unknown Unknown = refl
or_unknown k = refl

or_or_known : (a b c : Known) → or_known (or_known a b) c ≡ or_known a (or_known b c)
or_or_known Unknown b c = refl
or_or_known a b c = refl

pub unknown_is : (k : Known) → is_unknown k ≡ true → k ≡ Unknown
unknown_is Unknown h = refl
unknown_is (Number t) h = absurd cc
unknown_is (Array t n) h = absurd cc
unknown_is (Callable r ts) h = absurd cc

known_first : (k last : Known) → is_unknown k ≡ false → or_known k last ≡ k
known_first Unknown last h = absurd cc
known_first (Number t) last h = refl
known_first (Array t n) last h = refl
known_first (Callable r ts) last h = refl

among_append : (gs hs : List Global) (rest : Scope) (x : List ℕ) → known_among (gs ++ hs) rest x ≡ known_among gs (known_among hs rest) x
among_append [] hs rest x = refl
among_append (g ∷ gs) hs rest x = ap (λ k. if bytes_eq g.name.text x then known_global g else k) (among_append gs hs rest x)

-- a name that was not known takes what it is declared as, and the others stay
last_known : (b : Bool) (k new : Known) → (b ≡ true → k ≡ Unknown) → (if b then new else k) ≡ or_known k (if b then new else Unknown)
last_known true k new h = sym (ap (λ x. or_known x new) (h refl))
last_known false k new h = sym (or_unknown k)

-- a name that was known stays as it is
last_stays : (b : Bool) (k new : Known) → (b ≡ true → is_unknown k ≡ false) → or_known k (if b then new else Unknown) ≡ k
last_stays true k new h = known_first k new (h refl)
last_stays false k new h = or_unknown k

module _ (earlier : List Item) (known : Scope) where
  pub defines_more : (f : Function) (new : Scope) → known ≡ file_scope earlier → is_unknown (known f.name.text) ≡ true → new ≡ (λ y. if bytes_eq f.name.text y then known_function f else known y) → new ≡ file_scope (earlier ++ Defines f ∷ [])
  defines_more f new h free e = e ∙ (λ i y. (last_known (bytes_eq f.name.text y) (known y) (known_function f) (λ same. ap known (sym ((bytes_eq-Decides f.name.text y).0 same)) ∙ unknown_is (known f.name.text) free) ∙ ap (λ k. or_known k (if bytes_eq f.name.text y then known_function f else Unknown)) (ap (λ s. s y) h) ∙ sym (scope_append earlier (Defines f ∷ []) y)) i)

  pub defines_again : (f : Function) → known ≡ file_scope earlier → is_unknown (known f.name.text) ≡ false → known ≡ file_scope (earlier ++ Defines f ∷ [])
  defines_again f h free = λ i y. (sym (last_stays (bytes_eq f.name.text y) (known y) (known_function f) (λ same. ap (λ x. is_unknown (known x)) (sym ((bytes_eq-Decides f.name.text y).0 same)) ∙ free)) ∙ ap (λ k. or_known k (if bytes_eq f.name.text y then known_function f else Unknown)) (ap (λ s. s y) h) ∙ sym (scope_append earlier (Defines f ∷ []) y)) i

  pub shares_none : known ≡ file_scope earlier → known ≡ file_scope (earlier ++ Shares [] ∷ [])
  shares_none h = h ∙ (λ i y. (sym (or_unknown (file_scope earlier y)) ∙ sym (scope_append earlier (Shares [] ∷ []) y)) i)

  among_last : (before : List Global) (g : Global) (y : List ℕ) → known_among (before ++ g ∷ []) (file_scope []) y ≡ or_known (known_among before (file_scope []) y) (if bytes_eq g.name.text y then known_global g else Unknown)
  among_last before g y = among_append before (g ∷ []) (file_scope []) y ∙ among_known before (file_scope []) (known_among (g ∷ []) (file_scope [])) y (if bytes_eq g.name.text y then known_global g else Unknown) refl

  pub shares_more : (before : List Global) (g : Global) (new : Scope) → known ≡ file_scope (earlier ++ Shares before ∷ []) → is_unknown (known g.name.text) ≡ true → new ≡ (λ y. if bytes_eq g.name.text y then known_global g else known y) → new ≡ file_scope (earlier ++ Shares (before ++ g ∷ []) ∷ [])
  shares_more before g new h free e = e ∙ (λ i y. (
      let last = if bytes_eq g.name.text y then known_global g else Unknown in
      last_known (bytes_eq g.name.text y) (known y) (known_global g) (λ same. ap known (sym ((bytes_eq-Decides g.name.text y).0 same)) ∙ unknown_is (known g.name.text) free)
      ∙ ap (λ k. or_known k last) (ap (λ s. s y) h ∙ scope_append earlier (Shares before ∷ []) y)
      ∙ or_or_known (file_scope earlier y) (known_among before (file_scope []) y) last
      ∙ ap (or_known (file_scope earlier y)) (sym (among_last before g y))
      ∙ sym (scope_append earlier (Shares (before ++ g ∷ []) ∷ []) y)) i)

-- the cells of globals
pub all_cells_append : (a b : List Item) → all_cells (a ++ b) ≡ all_cells a + all_cells b
all_cells_append [] b = omega arith
all_cells_append (Defines f ∷ a) b = all_cells_append a b
all_cells_append (Shares gs ∷ a) b = let h = all_cells_append a b in omega (arith, h)

-- names of definitions
or_assoc : (a b c : Bool) → (a || b) || c ≡ a || (b || c)
or_assoc true b c = refl
or_assoc false b c = refl

body_name : (body : Option Stmts) (x y : List ℕ) (xs ys : List (List ℕ)) (rest : Bool) → has_name ys y ≡ (has_name xs y || rest) → has_name (unwrap_or (option_map (λ b. x ∷ ys) body) ys) y ≡ (has_name (unwrap_or (option_map (λ b. x ∷ xs) body) xs) y || rest)
body_name None x y xs ys rest h = h
body_name (Some b) x y xs ys rest h = ap (λ t. bytes_eq x y || t) h ∙ sym (or_assoc (bytes_eq x y) (has_name xs y) rest)

pub defined_append : (a b : List Item) (x : List ℕ) → has_name (defined_names (a ++ b)) x ≡ (has_name (defined_names a) x || has_name (defined_names b) x)
defined_append [] b x = refl
defined_append (Shares gs ∷ a) b x = defined_append a b x
defined_append (Defines f ∷ a) b x = body_name f.body f.name.text x (defined_names a) (defined_names (a ++ b)) (has_name (defined_names b) x) (defined_append a b x)

defined_here : (f : Function) (x : List ℕ) (items : List Item) → is_some (definition_of items x) ≡ has_name (defined_names items) x → is_some (definition_of (Defines f ∷ items) x) ≡ has_name (defined_names (Defines f ∷ items)) x
defined_here f x items h = by f f.body (definition_of items x) (defined_names items) h
  where
    if_some : (b : Bool) (y : Function × Stmts) (rest : Option (Function × Stmts)) (t : Bool) → is_some rest ≡ t → is_some (if b then Some y else rest) ≡ (b || t)
    if_some true y rest t h = refl
    if_some false y rest t h = h

    by : (g : Function) (body : Option Stmts) (rest : Option (Function × Stmts)) (ns : List (List ℕ)) → is_some rest ≡ has_name ns x → is_some (definition_or g x body rest) ≡ has_name (unwrap_or (option_map (λ b. g.name.text ∷ ns) body) ns) x
    by g None rest ns h = h
    by g (Some b) rest ns h = if_some (bytes_eq g.name.text x) (g, b) rest (has_name ns x) h

-- a function is defined where its name is among those of the definitions
pub defined_is : (items : List Item) (x : List ℕ) → is_some (definition_of items x) ≡ has_name (defined_names items) x
defined_is [] x = refl
defined_is (Shares gs ∷ items) x = defined_is items x
defined_is (Defines f ∷ items) x = defined_here f x items (defined_is items x)
