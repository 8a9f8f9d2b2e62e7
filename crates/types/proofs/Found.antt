-- What is found with one item more.
use Rattle.std.proofs.Common.{◌≡◌, ◌+◌, ◌≤◌, List, [], ◌∷◌, ◌++◌, sym, ap, subst, ◌∙◌, arith, sum_by, is_some}
use Rattle.syntax.specs.Tree.{Function, Global, Item, Defines, Shares}
use Rattle.syntax.specs.Names.{cells}
use Rattle.syntax.specs.Types.{file_scope}
use Rattle.syntax.specs.Typing.{has_name, defined_names}
use Rattle.name_tables.specs.Named.{first}
use Rattle.name_tables.specs.Known.{entries_in}
use Rattle.types.specs.declared.unit.FoundItems.{FoundItems}
use Rattle.types.specs.inner.Known.{known_in, count_in}
use Rattle.types.specs.inner.Bodies.{AreBodies}
use Rattle.types.specs.inner.Found.{IsFound}
use Rattle.types.proofs.Files.{all_cells_append, defined_append}
use Rattle.types.proofs.Bodies.{or_none}

module _ {A : Type 0} (old new : FoundItems A) (earlier : List Item) (i : Item) where
  pub found_function : (f : Function) → i ≡ Defines f → IsFound old earlier → known_in new.names ≡ file_scope (earlier ++ Defines f ∷ []) → count_in new.names ≡ 0 → AreBodies new.bodies (earlier ++ Defines f ∷ []) → new.taken ≡ old.taken → IsFound new (earlier ++ i ∷ [])
  found_function f is h known none defined taken =
      let now : IsFound new (earlier ++ Defines f ∷ []) = record {
        known = known;
        none = none;
        defined = defined;
        taken = taken ∙ h.taken ∙ (let e = all_cells_append earlier (Defines f ∷ []) in omega (arith, e));
        few = (let few = h.few in omega (arith, taken, few));
      } in
      subst (λ x. IsFound new (earlier ++ x ∷ [])) (sym is) now

  pub found_globals : (gs : List Global) → i ≡ Shares gs → IsFound old earlier → known_in new.names ≡ file_scope (earlier ++ Shares gs ∷ []) → count_in new.names ≡ 0 → new.bodies ≡ old.bodies → new.taken ≡ old.taken + sum_by cells gs → new.taken ≤ 4096 → IsFound new (earlier ++ i ∷ [])
  found_globals gs is h known none bodies taken few =
      let now : IsFound new (earlier ++ Shares gs ∷ []) = record {
        known = known;
        none = none;
        defined = λ x. ap (λ m. is_some (first (entries_in m) x)) bodies ∙ h.defined x ∙ or_none (has_name (defined_names earlier) x) ∙ sym (defined_append earlier (Shares gs ∷ []) x);
        taken = taken ∙ (let e = all_cells_append earlier (Shares gs ∷ []) in let t = h.taken in omega (arith, e, t));
        few = few;
      } in
      subst (λ x. IsFound new (earlier ++ x ∷ [])) (sym is) now
