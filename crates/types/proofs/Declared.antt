-- One declarator more.
use Rattle.std.proofs.Common.{◌≡◌, ℕ, ◌+◌, ◌<◌, List, ◌∷◌, ◌++◌, length, drop, get_or, map, option_map, not, sym, ap, ◌∙◌}
use Rattle.std.proofs.lemmas.List.{at_drop_more}
use Rattle.std.specs.Option.{option_or}
use Rattle.lex.specs.declared.token.Scalar.{Scalar}
use Rattle.syntax.specs.declared.tree.Declarator as R
use Rattle.syntax.specs.Views.{expr_of, declarator_of}
use Rattle.syntax.specs.Types.{Scope, with_number}
use Rattle.syntax.specs.Typing.{has_name, knows}
use Rattle.syntax.specs.Typing.{first_unmet, demand, demands_of, IsNumber, AreTypedDeclarators}
use Rattle.types.specs.inner.Known.{declared_by}
use Rattle.types.proofs.Steps.{first_of_two}

module _ {A : Type 0} (t : Scalar) (ds : List (R.Declarator A)) (i : ℕ) (d : R.Declarator A) (is : d ≡ get_or ds i d) (h : i < length ds) where
  pub declarators_more : (known : Scope) (ns : List (List ℕ)) → first_unmet (AreTypedDeclarators known ns t (map declarator_of (drop i ds))) ≡ option_or (first_unmet (demand 21 d.name.span (not (has_name ns d.name.text)) ++ demands_of (option_map expr_of d.first) (IsNumber (with_number d.name.text t known)))) (first_unmet (AreTypedDeclarators (with_number d.name.text t known) (d.name.text ∷ ns) t (map declarator_of (drop (i + 1) ds))))
  declarators_more known ns = at_drop_more (λ xs. first_unmet (AreTypedDeclarators known ns t (map declarator_of xs))) ds i d h ∙ ap (λ x. first_unmet (AreTypedDeclarators known ns t (map declarator_of (x ∷ drop (i + 1) ds)))) (sym is) ∙ first_of_two (demand 21 d.name.span (not (has_name ns d.name.text)) ++ demands_of (option_map expr_of d.first) (IsNumber (with_number d.name.text t known))) (AreTypedDeclarators (with_number d.name.text t known) (d.name.text ∷ ns) t (map declarator_of (drop (i + 1) ds)))

  pub knows_more : (known : Scope) → knows t (map declarator_of (drop i ds)) known ≡ knows t (map declarator_of (drop (i + 1) ds)) (with_number d.name.text t known)
  knows_more known = at_drop_more (λ xs. knows t (map declarator_of xs) known) ds i d h ∙ ap (λ x. knows t (map declarator_of (x ∷ drop (i + 1) ds)) known) (sym is)

  pub declared_by_more : (ns : List (List ℕ)) → declared_by (map declarator_of (drop i ds)) ns ≡ declared_by (map declarator_of (drop (i + 1) ds)) (d.name.text ∷ ns)
  declared_by_more ns = at_drop_more (λ xs. declared_by (map declarator_of xs) ns) ds i d h ∙ ap (λ x. declared_by (map declarator_of (x ∷ drop (i + 1) ds)) ns) (sym is)
