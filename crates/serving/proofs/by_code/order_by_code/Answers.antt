use Rattle.std.proofs.Common.{subst}
use Rattle.std.specs.Prelude.{IfOk}
use Rattle.syntax.specs.Views.{program_of}
use Rattle.lower_spec.specs.Means.{MeansItsProgram}
use Rattle.serving.proofs.by_code.order_by_code.Goals as goal

pub shown_by_code-requires-clause-code : goal.shown_by_code-requires-clause-code
shown_by_code-requires-clause-code g c =
    let p = program_of c.args.accepted.now.safe.typed.unit in
    record { means = subst (λ r. IfOk r (MeansItsProgram p)) c.in-Ok.is c.lower.ensures.means; globals = c.in-Ok.ensures.globals }
