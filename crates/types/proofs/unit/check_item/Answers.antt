use Rattle.std.proofs.Common.{◌+◌, ◌∙◌, ◌∷◌, ◌++◌, [], map, refl, ap, sum_by}
use Rattle.syntax.specs.Tree.{Shares}
use Rattle.syntax.specs.Views.{function_of, global_of, item_of}
use Rattle.syntax.specs.Names.{cells}
use Rattle.syntax.specs.Types.{file_scope}
use Rattle.types.proofs.Found.{found_function, found_globals}
use Rattle.types.proofs.unit.check_item.Goals as goal

pub returns-in_ok-check_function-in-Function-clause-found : goal.returns-in_ok-check_function-in-Function-clause-found
returns-in_ok-check_function-in-Function-clause-found g c =
    let ok = c.in_ok-check_function-in-Function.ensures in
    found_function c.args.found.now _ (map item_of c.args.earlier.now) (item_of c.args.item.now) (function_of c.in-Function.f) (ap item_of c.in-Function.is) c.requires ok.known ok.none ok.defined refl

pub returns-in_ok-check_globals-in-Globals-clause-found : goal.returns-in_ok-check_globals-in-Globals-clause-found
returns-in_ok-check_globals-in-Globals-clause-found g c =
    let e = map item_of c.args.earlier.now in
    let ok = c.in_ok-check_globals-in-Globals.ensures in
    let gs = map global_of c.in-Globals.all in
    let all = ap (map global_of) c.as_slice.ensures in
    found_globals c.args.found.now _ e (item_of c.args.item.now) gs (ap item_of c.in-Globals.is) c.requires (ok.known ∙ ap (λ xs. file_scope (e ++ Shares xs ∷ [])) all) ok.none refl (ok.taken ∙ ap (λ xs. c.args.found.now.taken + sum_by cells xs) all) ok.few
