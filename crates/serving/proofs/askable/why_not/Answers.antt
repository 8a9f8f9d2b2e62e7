use Rattle.syntax.specs.Views.{parameter_of}
use Rattle.serving.proofs.Asking.{not_empty}
use Rattle.serving.proofs.askable.why_not.Goals as goal

pub returns-then-not-is_empty-clause-some : goal.returns-then-not-is_empty-clause-some
returns-then-not-is_empty-clause-some g c = λ may. not_empty parameter_of c.args.f.now.parameters c.is_empty.result c.is_empty.ensures c.if-not-is_empty.true may.1
