use Rattle.std.proofs.Common.{◌<◌, ◌≤◌, ◌^◌, subst}
use Rattle.std.specs.Prelude.{slice_index}
use Rattle.std.proofs.lemmas.Bool.{ltb-true}
use Rattle.syntax.specs.Names.{bounds_of}
use Rattle.syntax.specs.Views.{global_of}
use Rattle.machine_tests.proofs.Firsts.{first_has}
use Rattle.machine_tests.proofs.threads.is_in_first.Goals as goal

pub returns-in-Some : goal.returns-in-Some
returns-in-Some g c = λ holds.
    subst (λ gs. 2 ^ 32 ≤ slice_index (bounds_of gs) c.args.cell) c.globals.ensures
    (first_has global_of c.globals.result.now c.in-Some.global.now c.args.cell c.in-Some.ensures.value
    (subst (λ n. c.args.cell < n) c.cell_count.ensures (ltb-true c.args.cell c.cell_count.result holds)))
