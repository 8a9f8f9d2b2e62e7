use Rattle.syntax.specs.Views.{program_of}
use Rattle.serving.specs.Askable.{IsAskable}
use Rattle.serving.proofs.Asking.{all_seen, none_of, one_less, one_not}
use Rattle.serving.proofs.askable.first_unaskable.Goals as goal

pub returns-in-Some-clause-some : goal.returns-in-Some-clause-some
returns-in-Some-clause-some g c = one_not (IsAskable (program_of c.args.unit.now)) (λ n. n.now) c.args.names.now c.names.name-index _ c.names-test.true c.in-Some.ensures.some

pub names-preserved : goal.names-preserved
names-preserved g c =
    one_less (IsAskable (program_of c.args.unit.now)) (λ n. n.now) c.args.names.now c.names.name-index _ c.names-test.true
    (none_of c.why_not_named.result c.in_default.is c.why_not_named.ensures.none) c.names.invariant

pub returns-clause-none : goal.returns-clause-none
returns-clause-none g c = all_seen (IsAskable (program_of c.args.unit.now)) (λ n. n.now) c.args.names.now c.names.name-index c.names-test.false c.names.invariant
