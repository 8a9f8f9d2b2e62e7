use Rattle.std.proofs.Common.{ap, sym, option_map}
use Rattle.std.specs.Option.{option_copied}
use Rattle.syntax.specs.Views.{expr_of}
use Rattle.selection.specs.Simples.{value_or_one}
use Rattle.lower_exprs.specs.Lists.{lists_of}
use Rattle.lower_exprs.specs.Views.{scope_in}
use Rattle.program_tables.specs.Views.{program_in}
use Rattle.lower_exprs.specs.Fragments.{of_value}
use Rattle.lower_exprs.proofs.Adding.{same}
use Rattle.lower_exprs.proofs.simple.lower_by.Goals as goal

pub returns-in-Some : goal.returns-in-Some
returns-in-Some g c = same (ap (λ o. of_value (value_or_one (program_in c.args.names.now) (scope_in c.args.scope.now) c.args.ty (option_map expr_of (option_copied o)) c.args.from c.args.free (lists_of c.args.lists.now))) (sym c.in-Some.is)) c.lower_operand.ensures

pub returns-in-None : goal.returns-in-None
returns-in-None g c = same (ap (λ o. of_value (value_or_one (program_in c.args.names.now) (scope_in c.args.scope.now) c.args.ty (option_map expr_of (option_copied o)) c.args.from c.args.free (lists_of c.args.lists.now))) (sym c.in-None.is)) c.lower_one.ensures
