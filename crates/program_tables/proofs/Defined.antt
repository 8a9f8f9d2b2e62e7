-- The functions of a program that have a body, from one item to the next.
use Rattle.std.proofs.Common.{◌≡◌, ℕ, suc, ◌+◌, ◌<◌, List, [], ◌∷◌, length, map, get_or, Option, Some, None, option_map, unwrap_or, is_some, Bool, true, false, if◌then◌else◌, bytes_eq, refl, sym, ap, ◌∙◌, arith}
use Rattle.syntax.specs.declared.tree.Item.{Item as OwnItem}
use Rattle.syntax.specs.declared.tree.Item.TheVariants as own
use Rattle.syntax.specs.declared.tree.Function.{Function as OwnFunction}
use Rattle.syntax.specs.declared.tree.Global.{Global as OwnGlobal}
use Rattle.syntax.specs.declared.tree.Stmt.{Stmt as OwnStmt}
use Rattle.syntax.specs.Views.{item_of, function_of, stmts_of}
use Rattle.syntax.specs.Tree.{Item, Function, Stmts, Program, Defines, Shares}
use Rattle.syntax.specs.Names.{definition_of, definition_or}
use Rattle.program_tables.specs.declared.entries.FunctionEntry.{FunctionEntry}
use Rattle.program_tables.specs.declared.entries.FunctionPlace.{FunctionPlace}
use Rattle.program_tables.specs.Entries.{defined_in, function_in}
use Rattle.program_tables.specs.Functions.{NumberedFunction, function_first, function_from}
use Rattle.program_tables.specs.inner.Tables.{numbered, place_first, place_from}

-- an item that gives a function a body, or one that only declares it
placed_step : {A : Type 0} (f : OwnFunction A) (o : Option (List (OwnStmt A))) (i n : ℕ) (rest : ℕ → Option FunctionPlace) (x : List ℕ) → is_some o ≡ true →
    place_first i n (function_of f) (option_map stmts_of o) rest x ≡ (if bytes_eq f.name.text x then Some (record { item = i; number = n }) else rest (suc n))
placed_step f (Some body) i n rest x h = refl
placed_step f None i n rest x h = absurd cc

pub placed_here : {A : Type 0} (item : OwnItem A) (f : OwnFunction A) (i n : ℕ) (rest : List Item) (x : List ℕ) → item ≡ own.Function f → is_some f.body ≡ true →
    place_from i n (item_of item ∷ rest) x ≡ (if bytes_eq f.name.text x then Some (record { item = i; number = n }) else place_from (i + 1) (n + 1) rest x)
placed_here item f i n rest x is some =
    let next : suc i ≡ i + 1 = omega arith in
    let more : suc n ≡ n + 1 = omega arith in
    ap (λ it. place_from i n (item_of it ∷ rest) x) is
    ∙ placed_step f f.body i n (λ m. place_from (suc i) m rest x) x some
    ∙ ap (λ k. if bytes_eq f.name.text x then Some (record { item = i; number = n }) else place_from k (suc n) rest x) next
    ∙ ap (λ k. if bytes_eq f.name.text x then Some (record { item = i; number = n }) else place_from (i + 1) k rest x) more

not_placed_step : {A : Type 0} (f : OwnFunction A) (o : Option (List (OwnStmt A))) (i n : ℕ) (rest : ℕ → Option FunctionPlace) (x : List ℕ) → is_some o ≡ false →
    place_first i n (function_of f) (option_map stmts_of o) rest x ≡ rest n
not_placed_step f None i n rest x h = refl
not_placed_step f (Some body) i n rest x h = absurd cc

pub not_placed_here : {A : Type 0} (item : OwnItem A) (f : OwnFunction A) (i n : ℕ) (rest : List Item) (x : List ℕ) → item ≡ own.Function f → is_some f.body ≡ false →
    place_from i n (item_of item ∷ rest) x ≡ place_from (i + 1) n rest x
not_placed_here item f i n rest x is none =
    let next : suc i ≡ i + 1 = omega arith in
    ap (λ it. place_from i n (item_of it ∷ rest) x) is
    ∙ not_placed_step f f.body i n (λ m. place_from (suc i) m rest x) x none
    ∙ ap (λ k. place_from k n rest x) next

pub globals_here : {A : Type 0} (item : OwnItem A) (i n : ℕ) (gs : List (OwnGlobal A)) (rest : List Item) (x : List ℕ) → item ≡ own.Globals gs →
    place_from i n (item_of item ∷ rest) x ≡ place_from (i + 1) n rest x
globals_here item i n gs rest x is =
    let next : suc i ≡ i + 1 = omega arith in
    ap (λ it. place_from i n (item_of it ∷ rest) x) is
    ∙ ap (λ k. place_from k n rest x) next

-- a function that has a body is the definition of its name
abbrev pub defined_by : NumberedFunction → Function × Stmts
defined_by d = d.definition

pub defined_twice : {A : Type 0} (o : Option (FunctionEntry A)) → option_map defined_in o ≡ option_map defined_by (option_map function_in o)
defined_twice None = refl
defined_twice (Some f) = refl

chosen : (b : Bool) (n : ℕ) (d : Function × Stmts) (r : Option NumberedFunction) (s : Option (Function × Stmts)) → option_map defined_by r ≡ s → option_map defined_by (if b then Some (record { number = n; definition = d }) else r) ≡ (if b then Some d else s)
chosen true n d r s h = refl
chosen false n d r s h = h

first_defined : (n : ℕ) (f : Function) (o : Option Stmts) (rest : ℕ → Option NumberedFunction) (x : List ℕ) (s : Option (Function × Stmts)) → ((m : ℕ) → option_map defined_by (rest m) ≡ s) → option_map defined_by (function_first n f o rest x) ≡ definition_or f x o s
first_defined n f None rest x s h = h n
first_defined n f (Some body) rest x s h = chosen (bytes_eq f.name.text x) n (f, body) (rest (suc n)) s (h (suc n))

pub definition_from : (n : ℕ) (p : Program) (x : List ℕ) → option_map defined_by (function_from n p x) ≡ definition_of p x
definition_from n [] x = refl
definition_from n (Shares gs ∷ items) x = definition_from n items x
definition_from n (Defines f ∷ items) x = first_defined n f f.body (λ m. function_from m items x) x (definition_of items x) (λ m. definition_from m items x)

-- where there is no place, there is no function
none_chosen : (b : Bool) (at : FunctionPlace) (d : NumberedFunction) (p : Option FunctionPlace) (r : Option NumberedFunction) → (p ≡ None → r ≡ None) → (if b then Some at else p) ≡ None → (if b then Some d else r) ≡ None
none_chosen true at d p r h e = absurd cc
none_chosen false at d p r h e = h e

none_first : (i n : ℕ) (f : Function) (o : Option Stmts) (x : List ℕ) (places : ℕ → Option FunctionPlace) (rest : ℕ → Option NumberedFunction) → ((m : ℕ) → places m ≡ None → rest m ≡ None) → place_first i n f o places x ≡ None → function_first n f o rest x ≡ None
none_first i n f None x places rest h e = h n e
none_first i n f (Some body) x places rest h e = none_chosen (bytes_eq f.name.text x) (record { item = i; number = n }) (record { number = n; definition = (f, body) }) (places (suc n)) (rest (suc n)) (h (suc n)) e

pub no_place : (i n : ℕ) (p : Program) (x : List ℕ) → place_from i n p x ≡ None → function_from n p x ≡ None
no_place i n [] x e = refl
no_place i n (Shares gs ∷ items) x e = no_place (suc i) n items x e
no_place i n (Defines f ∷ items) x e = none_first i n f f.body x (λ m. place_from (suc i) m items x) (λ m. function_from m items x) (λ m. no_place (suc i) m items x) e

module _ {A : Type 0} where
  -- a place is that of one of these items, the first of which has this number, and this is its function
  pub record StandsAt (i : ℕ) (xs : List (OwnItem A)) (at : FunctionPlace) (r : Option NumberedFunction) : Type 0 where
    pub index : ℕ
    pub is : at.item ≡ i + index
    pub less : index < length xs
    pub same : (d : OwnItem A) → r ≡ numbered at.number (item_of (get_or xs index d))

  behind : (i : ℕ) (y : OwnItem A) (xs : List (OwnItem A)) (at : FunctionPlace) (r : Option NumberedFunction) → StandsAt (suc i) xs at r → StandsAt i (y ∷ xs) at r
  behind i y xs at r s = record {
    index = suc s.index;
    is = (let k = s.is in omega (arith, k));
    less = (let k = s.less in omega (arith, k));
    same = λ d. s.same d;
  }

  chosen_stands : (b : Bool) (i n : ℕ) (f : OwnFunction A) (body : Stmts) (xs : List (OwnItem A)) (at : FunctionPlace) (places : Option FunctionPlace) (rest : Option NumberedFunction) →
      option_map stmts_of f.body ≡ Some body → (places ≡ Some at → StandsAt (suc i) xs at rest) → (if b then Some (record { item = i; number = n }) else places) ≡ Some at →
      StandsAt i (own.Function f ∷ xs) at (if b then Some (record { number = n; definition = (function_of f, body) }) else rest)
  chosen_stands true i n f body xs at places rest has h e =
      let item : i ≡ at.item = ap (λ o. (unwrap_or o at).item) e in
      let number : n ≡ at.number = ap (λ o. (unwrap_or o at).number) e in
      record {
        index = 0;
        is = omega (arith, item);
        less = omega arith;
        same = λ d.
            ap (λ (k : ℕ). Some (record { number = k; definition = (function_of f, body) })) number
            ∙ ap (λ o. option_map (λ (s : Stmts). record { number = at.number; definition = (function_of f, s) }) o) (sym has);
      }
  chosen_stands false i n f body xs at places rest has h e = behind i (own.Function f) xs at rest (h e)

  first_stands : (i n : ℕ) (f : OwnFunction A) (o : Option Stmts) (x : List ℕ) (xs : List (OwnItem A)) (at : FunctionPlace) (places : ℕ → Option FunctionPlace) (rest : ℕ → Option NumberedFunction) →
      option_map stmts_of f.body ≡ o → ((m : ℕ) → places m ≡ Some at → StandsAt (suc i) xs at (rest m)) → place_first i n (function_of f) o places x ≡ Some at →
      StandsAt i (own.Function f ∷ xs) at (function_first n (function_of f) o rest x)
  first_stands i n f None x xs at places rest has h e = behind i (own.Function f) xs at (rest n) (h n e)
  first_stands i n f (Some body) x xs at places rest has h e = chosen_stands (bytes_eq f.name.text x) i n f body xs at (places (suc n)) (rest (suc n)) has (h (suc n)) e

  pub stands : (i n : ℕ) (xs : List (OwnItem A)) (x : List ℕ) (at : FunctionPlace) → place_from i n (map item_of xs) x ≡ Some at → StandsAt i xs at (function_from n (map item_of xs) x)
  stands i n [] x at e = absurd cc
  stands i n (own.Globals gs ∷ xs) x at e = behind i (own.Globals gs) xs at (function_from n (map item_of xs) x) (stands (suc i) n xs x at e)
  stands i n (own.Function f ∷ xs) x at e =
      first_stands i n f (option_map stmts_of f.body) x xs at (λ m. place_from (suc i) m (map item_of xs) x) (λ m. function_from m (map item_of xs) x) refl (λ m. stands (suc i) m xs x at) e

  -- of the first items the number is the place
  pub place_less : (xs : List (OwnItem A)) (x : List ℕ) (at : FunctionPlace) → place_from 0 0 (map item_of xs) x ≡ Some at → at.item < length xs
  place_less xs x at e = let s = stands 0 0 xs x at e in let k = s.is in let l = s.less in omega (arith, k, l)

  pub place_same : (xs : List (OwnItem A)) (x : List ℕ) (d : OwnItem A) (at : FunctionPlace) → place_from 0 0 (map item_of xs) x ≡ Some at → function_from 0 (map item_of xs) x ≡ numbered at.number (item_of (get_or xs at.item d))
  place_same xs x d at e =
      let s = stands 0 0 xs x at e in
      let index : s.index ≡ at.item = (let k = s.is in omega (arith, k)) in
      s.same d ∙ ap (λ j. numbered at.number (item_of (get_or xs j d))) index

-- the function to which an item gives a body
pub numbered_here : {A : Type 0} (item : OwnItem A) (f : OwnFunction A) (body lent : List (OwnStmt A)) (n : ℕ) → item ≡ own.Function f → f.body ≡ Some body → lent ≡ body →
    Some (record { number = n; definition = (function_of f, stmts_of lent) }) ≡ numbered n (item_of item)
numbered_here item f body lent n is some same =
    ap (λ b. Some (record { number = n; definition = (function_of f, stmts_of b) })) same
    ∙ sym (ap (λ o. option_map (λ (s : Stmts). record { number = n; definition = (function_of f, s) }) (option_map stmts_of o)) some)
    ∙ sym (ap (λ it. numbered n (item_of it)) is)
