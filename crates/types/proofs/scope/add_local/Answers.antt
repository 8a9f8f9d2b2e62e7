use Rattle.std.proofs.Common.{◌∷◌, ap, subst, ◌∙◌}
use Rattle.syntax.specs.Types.{with_number}
use Rattle.types.specs.inner.Known.{known_in, AreDeclared}
use Rattle.types.proofs.Grown.{known_more, declared_more, grows_one}
use Rattle.types.proofs.scope.add_local.Goals as goal

pub returns-clause-known : goal.returns-clause-known
returns-clause-known g c =
    known_more c.args.names.now c.declare.new.self c.as_str.result.now c.args.ty c.in_ok-declare.ensures.locals c.in_ok-declare.ensures.file ∙ ap (λ x. with_number x c.args.ty (known_in c.args.names.now)) c.as_str.ensures

pub returns-clause-declared : goal.returns-clause-declared
returns-clause-declared g c = λ declared h.
    subst (λ x. AreDeclared c.args.start c.declare.new.self (x ∷ declared)) c.as_str.ensures
    (declared_more c.args.names.now c.declare.new.self c.as_str.result.now c.args.ty c.args.start declared c.requires c.in_ok-declare.ensures.locals h)

pub returns-clause-grows : goal.returns-clause-grows
returns-clause-grows g c = grows_one c.args.names.now c.declare.new.self (c.as_str.result.now, c.args.ty) c.in_ok-declare.ensures.locals c.in_ok-declare.ensures.file
