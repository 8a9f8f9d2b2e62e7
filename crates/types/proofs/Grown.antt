-- Further locals, and what is without them.
use Rattle.std.proofs.Common.{◌≡◌, ℕ, ◌+◌, ◌-◌, ◌≤◌, ◌<◌, ◌||◌, nat_lt, List, [], ◌∷◌, ◌++◌, length, drop, take, refl, sym, ap, subst, ◌∙◌, arith, bytes_eq, if◌then◌else◌, Bool, true, false, Option, Some, None, Result, Ok, Err, OnOk, OnErr}
use Rattle.std.specs.Prelude.{nat_le}
use Rattle.std.specs.Option.{option_or}
use Rattle.std.proofs.lemmas.List.{length-take, length-take-le, take-append-le, take-append-drop}
use Rattle.std.proofs.Math.Seq.{take-append_seam}
use Rattle.std.proofs.lemmas.Bool.Decides.{nat_tests}
use Rattle.std.proofs.lemmas.Slice.Eq.{bytes_eq-Decides}
use Rattle.syntax.specs.declared.tree.Function.{Function}
use Rattle.syntax.specs.Tree.{Scalar}
use Rattle.syntax.specs.Types.{Number, with_number}
use Rattle.syntax.specs.Typing.{has_name, is_unknown}
use Rattle.name_tables.specs.Named.{first, with_declaration, newest, newest_from}
use Rattle.name_tables.proofs.Firsts.{first_declared}
use Rattle.name_tables.proofs.Newest.{newest_more}
use Rattle.types.specs.declared.symbol.ScopeSymbol.{ScopeSymbol}
use Rattle.types.specs.declared.table.ScopeTable.{ScopeTable}
use Rattle.types.specs.inner.Scopes.{known_of}
use Rattle.types.specs.inner.Symbols.{is_nothing, AreSymbols}
use Rattle.types.specs.inner.Known.{known_as, is_behind, locals_of, file_of, known_in, count_in, Grows, Agrees, AreDeclared}

abbrev Locals : Type 0
Locals = List (List ℕ × Scalar)

take-take : (m k : ℕ) (xs : Locals) → m + k ≤ length xs → take m (take (m + k) xs) ≡ take m xs
take-take m k xs le = sym (take-append-le m (take (m + k) xs) (drop (m + k) xs) (let h = length-take-le (m + k) xs le in omega (arith, h))) ∙ ap (take m) (take-append-drop (m + k) xs)

take_all : (xs : Locals) → take (length xs) xs ≡ xs
take_all [] = refl
take_all (x ∷ xs) = ap (λ ys. x ∷ ys) (take_all xs)

at_least : (n : ℕ) (xs ys : Locals) → take n xs ≡ ys → length ys ≡ n → n ≤ length xs
at_least n xs ys e f = let h = sym (length-take n xs) ∙ ap length e ∙ f in omega (arith, h)

-- none of these locals is behind so many
before : (n i : ℕ) (ls : Locals) (x : List ℕ) → i + length ls ≤ n → is_behind n (newest_from i ls x) ≡ false
before n i [] x le = refl
before n i (l ∷ ls) x le = by (newest_from (i + 1) ls x) (before n (i + 1) ls x (omega (arith, le))) (bytes_eq l.0 x)
  where
    not_behind : nat_le n i ≡ false
    not_behind = grind (arith, nat_tests)

    by : (o : Option (ℕ × Scalar)) → is_behind n o ≡ false → (b : Bool) → is_behind n (option_or o (if b then Some (i, l.1) else None)) ≡ false
    by None h true = not_behind
    by None h false = refl
    by (Some m) h b = h

nat_le_true : (a b : ℕ) → a ≤ b → nat_le a b ≡ true
nat_le_true a b le = grind (arith, nat_tests)

local_behind : (start n : ℕ) (b : Bool) (t : Scalar) (o : Option (ℕ × Scalar)) (r : Bool) → start ≤ n → is_behind start o ≡ r → is_behind start (if b then Some (n, t) else o) ≡ (b || r)
local_behind start n true t o r le h = nat_le_true start n le
local_behind start n false t o r le h = h

no_locals : (ls : Locals) (x : List ℕ) → length ls ≡ 0 → newest ls x ≡ None
no_locals [] x h = refl
no_locals (l ∷ ls) x h = absurd (omega (arith, h))

module _ {A : Type 0} where
  -- the end of a scope
  pub left : (old mid new : ScopeTable A) → Grows old mid → locals_of new ≡ take (count_in old) (locals_of mid) → file_of new ≡ file_of mid → Agrees old new
  left old mid new g e f = record { locals = e ∙ g.locals; file = f ∙ g.file }

  pub grows_on : (a b c : ScopeTable A) → count_in a ≤ count_in b → Grows a b → Grows b c → Grows a c
  grows_on a b c le g h =
      let few = at_least (count_in b) (locals_of c) (locals_of b) h.locals refl in
      let sum : count_in a + (count_in b - count_in a) ≡ count_in b = omega (arith, le) in
      let shorter : take (count_in a) (take (count_in b) (locals_of c)) ≡ take (count_in a) (locals_of c) = subst (λ n. take (count_in a) (take n (locals_of c)) ≡ take (count_in a) (locals_of c)) sum (take-take (count_in a) (count_in b - count_in a) (locals_of c) (omega (arith, sum, few))) in
      record { locals = sym shorter ∙ ap (take (count_in a)) h.locals ∙ g.locals; file = h.file ∙ g.file }

  local_known : (b : Bool) (n : ℕ) (t : Scalar) (o : Option (ℕ × Scalar)) (s : Option (ScopeSymbol (Function A))) → known_as (if b then Some (n, t) else o) s ≡ (if b then Number t else known_as o s)
  local_known true n t o s = refl
  local_known false n t o s = refl

  -- a further local is known
  pub known_more : (old new : ScopeTable A) (x : List ℕ) (t : Scalar) → locals_of new ≡ locals_of old ++ (x, t) ∷ [] → file_of new ≡ file_of old → known_in new ≡ with_number x t (known_in old)
  known_more old new x t e f = unfold known_in in (λ i y. (
      ap (λ ls. known_as (newest ls y) (first (file_of new) y)) e
      ∙ ap (λ o. known_as o (first (file_of new) y)) (newest_more (locals_of old) (x, t) y)
      ∙ ap (λ es. known_as (if bytes_eq x y then Some (count_in old, t) else newest (locals_of old) y) (first es y)) f
      ∙ local_known (bytes_eq x y) (count_in old) t (newest (locals_of old) y) (first (file_of old) y)) i)

  -- and declared
  pub declared_more : (old new : ScopeTable A) (x : List ℕ) (t : Scalar) (start : ℕ) (names : List (List ℕ)) → start ≤ count_in old → locals_of new ≡ locals_of old ++ (x, t) ∷ [] → AreDeclared start old names → AreDeclared start new (x ∷ names)
  declared_more old new x t start names le e h = λ y.
      ap (λ ls. is_behind start (newest ls y)) e ∙ ap (is_behind start) (newest_more (locals_of old) (x, t) y)
      ∙ local_behind start (count_in old) (bytes_eq x y) t (newest (locals_of old) y) (has_name names y) le (h y)

  -- and without it all is as it was
  pub grows_one : (old new : ScopeTable A) (l : List ℕ × Scalar) → locals_of new ≡ locals_of old ++ l ∷ [] → file_of new ≡ file_of old → Grows old new
  grows_one old new l e f = record { locals = ap (take (count_in old)) e ∙ take-append_seam (locals_of old) (l ∷ []); file = f }

  -- nothing more
  pub grows_none : (n : ScopeTable A) → Grows n n
  grows_none n = record { locals = take_all (locals_of n); file = refl }

  pub grows_same : (old new : ScopeTable A) → Agrees old new → Grows old new
  grows_same old new a = record { locals = ap (take (count_in old)) a.locals ∙ take_all (locals_of old); file = a.file }

  -- in a scope that begins here nothing is declared yet
  pub none_declared : (n : ScopeTable A) → AreDeclared (count_in n) n []
  none_declared n = λ x. before (count_in n) 0 (locals_of n) x (omega arith)

  -- what agrees knows the same, and has declared the same
  pub same_known : (old new : ScopeTable A) → Agrees old new → known_in new ≡ known_in old
  same_known old new a = unfold known_in in (λ i x. known_as (newest (a.locals i) x) (first (a.file i) x))

  pub same_declared : (old new : ScopeTable A) (start : ℕ) (names : List (List ℕ)) → Agrees old new → AreDeclared start old names → AreDeclared start new names
  same_declared old new start names a h = λ x. ap (λ ls. is_behind start (newest ls x)) a.locals ∙ h x

  pub same_count : (old new : ScopeTable A) → Agrees old new → count_in new ≡ count_in old
  same_count old new a = ap length a.locals

  pub agrees_all : (n : ScopeTable A) → Agrees n n
  agrees_all n = record { locals = refl; file = refl }

  -- a name of the file more
  not_known : (o : Option (ScopeSymbol (Function A))) → is_nothing o ≡ false → is_unknown (known_as None o) ≡ true → o ≡ None
  not_known None h e = refl
  not_known (Some s) h e = absurd (true_false (sym e ∙ h))
    where
      true_false : true ≡ false → ⊥
      true_false e = absurd cc

  file_known : (b : Bool) (o : Option (ScopeSymbol (Function A))) (s : ScopeSymbol (Function A)) → (b ≡ true → o ≡ None) → known_as None (option_or o (if b then Some s else None)) ≡ (if b then known_of s else known_as None o)
  file_known true o s h = ap (λ k. known_as None (option_or k (Some s))) (h refl)
  file_known false None s h = refl
  file_known false (Some k) s h = refl

  pub define_known : (old new : ScopeTable A) (x : List ℕ) (s : ScopeSymbol (Function A)) → count_in old ≡ 0 → locals_of new ≡ locals_of old → file_of new ≡ with_declaration (file_of old) x s → is_unknown (known_in old x) ≡ true → known_in new ≡ (λ y. if bytes_eq x y then known_of s else known_in old y)
  define_known old new x s none same e unknown = unfold known_in in (
      let here : (y : List ℕ) → newest (locals_of old) y ≡ None = λ y. no_locals (locals_of old) y none in
      let free : first (file_of old) x ≡ None = not_known (first (file_of old) x) (old.symbols x) (ap (λ o. is_unknown (known_as o (first (file_of old) x))) (sym (here x)) ∙ unknown) in
      λ i y. (
      ap (λ ls. known_as (newest ls y) (first (file_of new) y)) same
      ∙ ap (λ o. known_as o (first (file_of new) y)) (here y)
      ∙ ap (λ es. known_as None (first es y)) e
      ∙ ap (known_as None) (first_declared (file_of old) x s y)
      ∙ file_known (bytes_eq x y) (first (file_of old) y) s (λ named. ap (first (file_of old)) (sym ((bytes_eq-Decides x y).0 named)) ∙ free)
      ∙ ap (λ o. if bytes_eq x y then known_of s else known_as o (first (file_of old) y)) (sym (here y))) i)

  symbol_more : (o : Option (ScopeSymbol (Function A))) (b : Bool) (s : ScopeSymbol (Function A)) → is_nothing o ≡ false → is_unknown (known_of s) ≡ false → is_nothing (option_or o (if b then Some s else None)) ≡ false
  symbol_more None true s h k = k
  symbol_more None false s h k = refl
  symbol_more (Some t) b s h k = h

  pub symbols_more : (old new : List (List ℕ × ScopeSymbol (Function A))) (x : List ℕ) (s : ScopeSymbol (Function A)) → new ≡ with_declaration old x s → is_unknown (known_of s) ≡ false → AreSymbols old → AreSymbols new
  symbols_more old new x s e k h = λ y. ap (λ es. is_nothing (first es y)) e ∙ ap is_nothing (first_declared old x s y) ∙ symbol_more (first old y) (bytes_eq x y) s (h y) k

  pub symbols_same : (old new : List (List ℕ × ScopeSymbol (Function A))) → new ≡ old → AreSymbols old → AreSymbols new
  symbols_same old new e h = subst AreSymbols (sym e) h
