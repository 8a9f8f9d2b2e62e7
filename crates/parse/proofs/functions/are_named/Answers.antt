use Rattle.std.proofs.Common.{◌≡◌, Bool, List, [], ◌∷◌, Option, Some, None, map, refl, ap, ◌∙◌, rules, tests, if◌then◌else◌, ◌&&◌, option_map}
use Rattle.std.specs.List.{list_all}
use Rattle.std.specs.Option.{is_some}
use Rattle.std.proofs.lemmas.Iterator.{YieldsList-from_slice}
use Rattle.std.proofs.lemmas.Iterator.Search.{all_from_yields_List}
use Rattle.syntax.specs.declared.tree.Parameter.{Parameter}
use Rattle.syntax.specs.declared.tree.Name.{Name}
use Rattle.syntax.specs.Views.{parameter_of, name_of}
use Rattle.parse.specs.inner.Items.{are_named}
use Rattle.parse.proofs.functions.are_named.Goals as goal

all_named : {A : Type 0} (qs : List (Parameter A)) → list_all (λ q. is_some q.name) qs ≡ are_named (map parameter_of qs)
all_named [] = refl
all_named {A} (q ∷ qs) = one q.name ∙ ap (λ b. if is_some (option_map name_of q.name) then b else Bool.false) (all_named qs)
  where
    one : (x : Option (Name A)) → (is_some x && list_all (λ (p : Parameter A). is_some p.name) qs) ≡ (if is_some (option_map name_of x) then list_all (λ (p : Parameter A). is_some p.name) qs else Bool.false)
    one None = refl
    one (Some x) = refl

pub returns : goal.returns
returns g c = all_from_yields_List (λ q. is_some q.name) _ _ _ c.all.ensures.ran (YieldsList-from_slice c.args.parameters.now cc) (λ x b q k. search (rules, tests)) ∙ all_named c.args.parameters.now
