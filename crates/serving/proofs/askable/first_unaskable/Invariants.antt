use Rattle.syntax.specs.Views.{program_of}
use Rattle.serving.specs.Askable.{IsAskable}
use Rattle.serving.proofs.Asking.{AllIfRest}
use Rattle.serving.proofs.askable.first_unaskable.Given as goal

-- if the remaining ones can be properties, all can be
abbrev pub invariant-names : goal.invariant-names
invariant-names g l = AllIfRest (IsAskable (program_of l.unit)) (λ n. n.now) l.names l.name-index
