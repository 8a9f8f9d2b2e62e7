-- The registers that a call hands over, one parameter after another.
use Rattle.std.proofs.Common.{◌≡◌, ℕ, ◌+◌, ◌<◌, ◌≤◌, List, [], ◌∷◌, ◌++◌, length, map, drop, get_or, Option, Some, None, option_map, Bool, true, false, not, is_some, if◌then◌else◌, refl, sym, ap, ◌∙◌, append_assoc, append-nil}
use Rattle.std.proofs.lemmas.List.{drop_more, drop_all}
use Rattle.syntax.specs.declared.tree.Parameter.{Parameter as OwnParameter}
use Rattle.syntax.specs.Tree.{Parameter}
use Rattle.syntax.specs.Views.{name_of, parameter_of}
use Rattle.lower_spec.specs.Expressions.{named_ones, nameless_ones}

some_map : {X Y : Type 0} (f : X → Y) (o : Option X) → is_some (option_map f o) ≡ is_some o
some_map f None = refl
some_map f (Some x) = refl

no_named : (qs : List Parameter) → named_ones qs [] ≡ []
no_named [] = refl
no_named (q ∷ qs) = refl

no_nameless : (qs : List Parameter) → nameless_ones qs [] ≡ []
no_nameless [] = refl
no_nameless (q ∷ qs) = refl

-- a choice of some parameters, by whether they have a name
module _ (F : List Parameter → List ℕ → List ℕ) (keeps : Bool → Bool) (nil : (qs : List Parameter) → F qs [] ≡ [])
    (step : (q : Parameter) (qs : List Parameter) (r : ℕ) (rs : List ℕ) → F (q ∷ qs) (r ∷ rs) ≡ (if keeps (is_some q.name) then r ∷ F qs rs else F qs rs)) {A : Type 0} (ps : List (OwnParameter A)) (rs : List ℕ) (i : ℕ) where
  rest : ℕ → List ℕ
  rest j = F (map parameter_of (drop j ps)) (drop j rs)

  more : (p : OwnParameter A) → i < length ps → i < length rs → p ≡ get_or ps i p → rest i ≡ (if keeps (is_some p.name) then get_or rs i 0 ∷ rest (i + 1) else rest (i + 1))
  unfolding rest
  more p h hr is =
      ap (λ xs. F (map parameter_of xs) (drop i rs)) (drop_more ps i p h ∙ ap (λ x. x ∷ drop (i + 1) ps) (sym is))
      ∙ ap (λ ys. F (parameter_of p ∷ map parameter_of (drop (i + 1) ps)) ys) (drop_more rs i 0 hr)
      ∙ step (parameter_of p) (map parameter_of (drop (i + 1) ps)) (get_or rs i 0) (drop (i + 1) rs)
      ∙ ap (λ b. if keeps b then get_or rs i 0 ∷ F (map parameter_of (drop (i + 1) ps)) (drop (i + 1) rs) else F (map parameter_of (drop (i + 1) ps)) (drop (i + 1) rs)) (some_map name_of p.name)

  taken_rest : (p : OwnParameter A) (all new whole : List ℕ) (r : ℕ) → i < length ps → i < length rs → p ≡ get_or ps i p → r ≡ get_or rs i 0 → keeps (is_some p.name) ≡ true → new ≡ all ++ r ∷ [] → all ++ rest i ≡ whole → new ++ rest (i + 1) ≡ whole
  taken_rest p all new whole r h hr is eq yes_ n inv =
      ap (λ x. x ++ rest (i + 1)) (n ∙ ap (λ x. all ++ x ∷ []) eq)
      ∙ append_assoc all (get_or rs i 0 ∷ []) (rest (i + 1))
      ∙ sym (ap (λ x. all ++ x) (more p h hr is ∙ ap (λ b. if b then get_or rs i 0 ∷ rest (i + 1) else rest (i + 1)) yes_))
      ∙ inv

  left_rest : (p : OwnParameter A) (all new whole : List ℕ) → i < length ps → i < length rs → p ≡ get_or ps i p → keeps (is_some p.name) ≡ false → new ≡ all → all ++ rest i ≡ whole → new ++ rest (i + 1) ≡ whole
  left_rest p all new whole h hr is no_ n inv =
      ap (λ x. x ++ rest (i + 1)) n
      ∙ sym (ap (λ x. all ++ x) (more p h hr is ∙ ap (λ b. if b then get_or rs i 0 ∷ rest (i + 1) else rest (i + 1)) no_))
      ∙ inv

  none_rest : (all whole : List ℕ) → length rs ≤ i → all ++ rest i ≡ whole → all ≡ whole
  unfolding rest
  none_rest all whole h inv =
      sym (append-nil all) ∙ sym (ap (λ x. all ++ x) (ap (λ ys. F (map parameter_of (drop i ps)) ys) (drop_all i rs h) ∙ nil (map parameter_of (drop i ps)))) ∙ inv

same : Bool → Bool
same b = b

named_step : (q : Parameter) (qs : List Parameter) (r : ℕ) (rs : List ℕ) → named_ones (q ∷ qs) (r ∷ rs) ≡ (if same (is_some q.name) then r ∷ named_ones qs rs else named_ones qs rs)
unfolding same
named_step q qs r rs = refl

turned : (b : Bool) (xs ys : List ℕ) → (if b then xs else ys) ≡ (if not b then ys else xs)
turned true xs ys = refl
turned false xs ys = refl

nameless_step : (q : Parameter) (qs : List Parameter) (r : ℕ) (rs : List ℕ) → nameless_ones (q ∷ qs) (r ∷ rs) ≡ (if not (is_some q.name) then r ∷ nameless_ones qs rs else nameless_ones qs rs)
nameless_step q qs r rs = turned (is_some q.name) (nameless_ones qs rs) (r ∷ nameless_ones qs rs)

module _ {A : Type 0} (ps : List (OwnParameter A)) (rs : List ℕ) (i : ℕ) (p : OwnParameter A) (all new whole : List ℕ) where
  pub named_taken : (r : ℕ) → i < length ps → i < length rs → p ≡ get_or ps i p → r ≡ get_or rs i 0 → is_some p.name ≡ true → new ≡ all ++ r ∷ [] →
      all ++ named_ones (map parameter_of (drop i ps)) (drop i rs) ≡ whole → new ++ named_ones (map parameter_of (drop (i + 1) ps)) (drop (i + 1) rs) ≡ whole
  unfolding rest same
  named_taken r h hr is eq b n inv = taken_rest named_ones same no_named named_step ps rs i p all new whole r h hr is eq b n inv

  pub named_left : i < length ps → i < length rs → p ≡ get_or ps i p → is_some p.name ≡ false → new ≡ all →
      all ++ named_ones (map parameter_of (drop i ps)) (drop i rs) ≡ whole → new ++ named_ones (map parameter_of (drop (i + 1) ps)) (drop (i + 1) rs) ≡ whole
  unfolding rest same
  named_left h hr is b n inv = left_rest named_ones same no_named named_step ps rs i p all new whole h hr is b n inv

  pub nameless_taken : (r : ℕ) → i < length ps → i < length rs → p ≡ get_or ps i p → r ≡ get_or rs i 0 → is_some p.name ≡ false → new ≡ all ++ r ∷ [] →
      all ++ nameless_ones (map parameter_of (drop i ps)) (drop i rs) ≡ whole → new ++ nameless_ones (map parameter_of (drop (i + 1) ps)) (drop (i + 1) rs) ≡ whole
  unfolding rest
  nameless_taken r h hr is eq b n inv = taken_rest nameless_ones not no_nameless nameless_step ps rs i p all new whole r h hr is eq (ap not b) n inv

  pub nameless_left : i < length ps → i < length rs → p ≡ get_or ps i p → is_some p.name ≡ true → new ≡ all →
      all ++ nameless_ones (map parameter_of (drop i ps)) (drop i rs) ≡ whole → new ++ nameless_ones (map parameter_of (drop (i + 1) ps)) (drop (i + 1) rs) ≡ whole
  unfolding rest
  nameless_left h hr is b n inv = left_rest nameless_ones not no_nameless nameless_step ps rs i p all new whole h hr is (ap not b) n inv

module _ {A : Type 0} (ps : List (OwnParameter A)) (rs : List ℕ) (i : ℕ) (all whole : List ℕ) where
  pub named_none : length rs ≤ i → all ++ named_ones (map parameter_of (drop i ps)) (drop i rs) ≡ whole → all ≡ whole
  unfolding rest same
  named_none h inv = none_rest named_ones same no_named named_step ps rs i all whole h inv

  pub nameless_none : length rs ≤ i → all ++ nameless_ones (map parameter_of (drop i ps)) (drop i rs) ≡ whole → all ≡ whole
  unfolding rest
  nameless_none h inv = none_rest nameless_ones not no_nameless nameless_step ps rs i all whole h inv
