use Rattle.std.proofs.Common.{◌∙◌, ◌++◌, ap}
use Rattle.std.specs.Prelude.{codes}
use Rattle.std.proofs.lemmas.Result.{on_ok_weaker}
use Rattle.report.specs.Coverings.{counted_text}
use Rattle.report.proofs.OutcomeList.{two_joined}
use Rattle.report.proofs.coverings.push_order_with.Goals as goal

pub returns : goal.returns
returns g c = on_ok_weaker c.push_reported.result (λ last.
    two_joined _ _ _ _ _ (c.in_ok-push_counted.ensures
    ∙ ap (λ n. c.args.list.now.items ++ counted_text c.args.head.now c.args.name.now (codes " --threads ") n) c.from.ensures) last) c.push_reported.ensures
