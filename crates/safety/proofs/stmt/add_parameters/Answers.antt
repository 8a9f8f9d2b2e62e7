use Rattle.std.proofs.Common.{sym, map}
use Rattle.std.proofs.lemmas.List.{at_drop_all}
use Rattle.syntax.specs.Views.{parameter_of}
use Rattle.syntax.specs.Typing.{parameter_names}
use Rattle.safety.specs.inner.Known.{names_in}
use Rattle.safety.proofs.Walks.{next_of, done_of, parameters_more}
use Rattle.safety.proofs.stmt.add_parameters.Goals as goal

pub each-preserved : goal.each-preserved
each-preserved g c = next_of (names_in c.args.locals.now) (names_in c.each.locals) (names_in c.add_parameter.new.locals) _ _ _ _ (parameters_more c.args.all.now c.each.one-index c.one-item.result c.one-item.is c.each-test.true) c.in_ok-add_parameter.ensures c.each.invariant

pub returns : goal.returns
returns g c = done_of (names_in c.args.locals.now) (names_in c.each.locals) _ _ (sym (at_drop_all (λ qs. parameter_names (map parameter_of qs)) c.args.all.now c.each.one-index c.each-test.false)) c.each.invariant
