use Rattle.std.proofs.Common.{ap, sym, ◌∙◌}
use Rattle.syntax.specs.declared.tree.Simple.TheVariants as simple
use Rattle.syntax.specs.Views.{simple_of}
use Rattle.selection.specs.Simples.{simple_written}
use Rattle.lower_exprs.specs.Lists.{lists_of}
use Rattle.lower_exprs.specs.Views.{scope_in}
use Rattle.program_tables.specs.Views.{program_in}
use Rattle.lower_exprs.specs.Fragments.{of_written}
use Rattle.lower_exprs.proofs.Adding.{same}
use Rattle.lower_exprs.proofs.simple.lower_effect.Goals as goal

pub returns-in-None : goal.returns-in-None
returns-in-None g c =
    let is = ap simple_of (c.in-Assign.is ∙ ap (λ o. simple.Assign c.in-Assign.to o c.in-Assign.value) c.in-None.is) in
    same (ap (λ s. of_written (simple_written (program_in c.args.names.now) (scope_in c.args.scope.now) s c.args.from c.args.free (lists_of c.args.lists.now))) (sym is)) c.lower_assign.ensures

pub returns-in-Some : goal.returns-in-Some
returns-in-Some g c =
    let is = ap simple_of (c.in-Assign.is ∙ ap (λ o. simple.Assign c.in-Assign.to o c.in-Assign.value) c.in-Some.is) in
    same (ap (λ s. of_written (simple_written (program_in c.args.names.now) (scope_in c.args.scope.now) s c.args.from c.args.free (lists_of c.args.lists.now))) (sym is)) c.lower_adjust.ensures
