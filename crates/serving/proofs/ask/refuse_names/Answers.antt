use Rattle.std.proofs.Common.{All, map, subst}
use Rattle.std.specs.Prelude.{IfNone, IfSome}
use Rattle.syntax.specs.Views.{program_of}
use Rattle.serving.specs.Askable.{IsAskable}
use Rattle.serving.proofs.Asking.{none_of, some_of}
use Rattle.serving.proofs.ask.refuse_names.Goals as goal

pub returns-in-Some-clause-unaskable : goal.returns-in-Some-clause-unaskable
returns-in-Some-clause-unaskable g c = λ _.
    some_of c.in-Ok.found c.in-Some.unaskable c.in-Some.is
    (subst (λ u. IfSome c.in-Ok.found (λ _. All (IsAskable (program_of u)) (map (λ n. n.now) c.args.names.now) → ⊥)) c.unit_of.ensures c.in-Ok.ensures.some)

pub returns-in-None-clause-none : goal.returns-in-None-clause-none
returns-in-None-clause-none g c =
    none_of c.in-Ok.found c.in-None.is
    (subst (λ u. IfNone c.in-Ok.found (All (IsAskable (program_of u)) (map (λ n. n.now) c.args.names.now))) c.unit_of.ensures c.in-Ok.ensures.none)
