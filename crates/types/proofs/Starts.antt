-- What the head of a `for` begins with.
use Rattle.std.proofs.Common.{◌≡◌, List, [], map, sym, ap, subst, ◌∙◌, Result, OnOk, Ok, Err}
use Rattle.syntax.specs.declared.tree.Start as B
use Rattle.syntax.specs.declared.tree.Start.TheVariants as V
use Rattle.syntax.specs.declared.tree.Declaration.{Declaration}
use Rattle.syntax.specs.declared.tree.Declarator.{Declarator}
use Rattle.syntax.specs.Views.{declarator_of, start_of}
use Rattle.syntax.specs.Types.{Scope}
use Rattle.syntax.specs.Typing.{knows, scope_of_start}
use Rattle.types.specs.declared.fault.TypeFailure.{TypeFailure}
use Rattle.syntax.specs.Typing.{first_unmet, AreTypedDeclarators, IsTypedStart}
use Rattle.types.specs.inner.Unmet.{Tells}

module _ {A : Type 0} (known : Scope) where
  pub start_declares : {X : Type 0} (s : B.Start A) (d : Declaration A) (ds : List (Declarator A)) (r : Result X TypeFailure) → s ≡ V.Declare d → ds ≡ d.declarators → Tells r (first_unmet (AreTypedDeclarators known [] d.ty (map declarator_of ds))) → Tells r (first_unmet (IsTypedStart known (start_of s)))
  start_declares s d ds r is e h = subst (λ x. Tells r (first_unmet (IsTypedStart known (start_of x)))) (sym is) (subst (λ xs. Tells r (first_unmet (AreTypedDeclarators known [] d.ty (map declarator_of xs)))) e h)

  pub start_knows : {X : Type 0} (new : Scope) (s : B.Start A) (d : Declaration A) (ds : List (Declarator A)) (r : Result X TypeFailure) → s ≡ V.Declare d → ds ≡ d.declarators → OnOk r (new ≡ knows d.ty (map declarator_of ds) known) → OnOk r (new ≡ scope_of_start (start_of s) known)
  start_knows new s d ds (Ok x) is e h = h ∙ ap (λ xs. knows d.ty (map declarator_of xs) known) e ∙ sym (ap (λ x. scope_of_start (start_of x) known) is)
  start_knows new s d ds (Err f) is e h = tt
