use Rattle.std.proofs.Common.{◌∙◌, ◌++◌, map, sym, append-nil}
use Rattle.std.proofs.lemmas.List.{at_drop_all}
use Rattle.syntax.specs.Views.{parameter_of}
use Rattle.lower_spec.specs.Programs.{parameter_locals}
use Rattle.lower_exprs.specs.Views.{scope_in}
use Rattle.lower.proofs.Parameters.{next_parameter}
use Rattle.lower.proofs.function.parameter_locals.Goals as goal

pub each-preserved : goal.each-preserved
each-preserved g c = next_parameter parameter_of c.args.parameters.now c.each.parameter-index c.parameter-item.result (scope_in c.each.scope) _ _ c.parameter-item.is c.each-test.true c.each.invariant c.in_ok-declare_parameter.ensures

pub returns : goal.returns
returns g c =
    sym (append-nil (scope_in c.each.scope))
    ∙ sym (at_drop_all (λ ps. scope_in c.each.scope ++ parameter_locals (map parameter_of ps)) c.args.parameters.now c.each.parameter-index c.each-test.false)
    ∙ c.each.invariant
