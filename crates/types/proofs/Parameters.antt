-- One parameter more.
use Rattle.std.proofs.Common.{◌≡◌, ℕ, ◌+◌, ◌<◌, List, [], ◌∷◌, ◌++◌, length, drop, get_or, map, Option, Some, None, not, ◌||◌, refl, sym, ap, ◌∙◌, option_map, unwrap_or, bytes_eq}
use Rattle.std.proofs.lemmas.List.{at_drop_more}
use Rattle.std.specs.Option.{option_or}
use Rattle.syntax.specs.Tree.{Name, Parameter}
use Rattle.syntax.specs.declared.tree.Parameter as Own
use Rattle.syntax.specs.Views.{parameter_of, name_of}
use Rattle.syntax.specs.Types.{Scope}
use Rattle.syntax.specs.Typing.{has_name, parameter_names, with_parameters}
use Rattle.syntax.specs.Typing.{first_unmet, demand, demands_of, AreDistinct}
use Rattle.types.proofs.Steps.{first_of_two}
use Rattle.types.proofs.BlockItems.{named_later}

-- the names that are declared behind these parameters
abbrev pub parameters_by : List Parameter → List (List ℕ) → List (List ℕ)
parameters_by [] ns = ns
parameters_by (q ∷ qs) ns = parameters_by qs (parameter_names (q ∷ []) ++ ns)

pub parameters_named : (qs : List Parameter) (ns : List (List ℕ)) (x : List ℕ) → has_name (parameters_by qs ns) x ≡ has_name (parameter_names qs ++ ns) x
parameters_named [] ns x = refl
parameters_named (q ∷ qs) ns x = parameters_named qs (parameter_names (q ∷ []) ++ ns) x ∙ by q.name
  where
    by : (o : Option Name) → has_name (parameter_names qs ++ (unwrap_or (option_map (λ y. y.text ∷ []) o) [] ++ ns)) x ≡ has_name (unwrap_or (option_map (λ y. y.text ∷ parameter_names qs) o) (parameter_names qs) ++ ns) x
    by None = refl
    by (Some y) = named_later (parameter_names qs) ns y.text x

pub nothing_more : (xs : List (List ℕ)) (x : List ℕ) → has_name (xs ++ []) x ≡ has_name xs x
nothing_more [] x = refl
nothing_more (y ∷ xs) x = ap (λ b. bytes_eq y x || b) (nothing_more xs x)

module _ {A : Type 0} (qs : List (Own.Parameter A)) (i : ℕ) (q : Own.Parameter A) (is : q ≡ get_or qs i q) (less : i < length qs) where
  pub distinct_more : (ns : List (List ℕ)) → first_unmet (AreDistinct ns (map parameter_of (drop i qs))) ≡ option_or (first_unmet (demands_of (option_map name_of q.name) (λ x. demand 21 x.span (not (has_name ns x.text))))) (first_unmet (AreDistinct (parameter_names (parameter_of q ∷ []) ++ ns) (map parameter_of (drop (i + 1) qs))))
  distinct_more ns =
      at_drop_more (λ xs. first_unmet (AreDistinct ns (map parameter_of xs))) qs i q less
      ∙ ap (λ x. first_unmet (AreDistinct ns (map parameter_of (x ∷ drop (i + 1) qs)))) (sym is)
      ∙ first_of_two (demands_of (option_map name_of q.name) (λ x. demand 21 x.span (not (has_name ns x.text)))) (AreDistinct (parameter_names (parameter_of q ∷ []) ++ ns) (map parameter_of (drop (i + 1) qs)))

  pub with_more : (known : Scope) → with_parameters (map parameter_of (drop i qs)) known ≡ with_parameters (map parameter_of (drop (i + 1) qs)) (with_parameters (parameter_of q ∷ []) known)
  with_more known = at_drop_more (λ xs. with_parameters (map parameter_of xs) known) qs i q less ∙ ap (λ x. with_parameters (map parameter_of (x ∷ drop (i + 1) qs)) known) (sym is)

  pub by_more : (ns : List (List ℕ)) → parameters_by (map parameter_of (drop i qs)) ns ≡ parameters_by (map parameter_of (drop (i + 1) qs)) (parameter_names (parameter_of q ∷ []) ++ ns)
  by_more ns = at_drop_more (λ xs. parameters_by (map parameter_of xs) ns) qs i q less ∙ ap (λ x. parameters_by (map parameter_of (x ∷ drop (i + 1) qs)) ns) (sym is)
