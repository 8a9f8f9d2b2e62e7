use Rattle.std.proofs.Common.{◌∙◌, false, option_map, sym, ap}
use Rattle.syntax.specs.Views.{stmts_of}
use Rattle.syntax.specs.Typing.{first_unmet, demands_of, AreTypedStmts}
use Rattle.types.specs.inner.Known.{known_in}
use Rattle.types.proofs.Steps.{tell_rest}
use Rattle.types.proofs.function.check_body.Goals as goal

pub returns-in-Some-clause-answer : goal.returns-in-Some-clause-answer
returns-in-Some-clause-answer g c = λ declared h.
    let k = known_in c.args.names.now in
    tell_rest c.check_stmts.result _ _ (ap (λ o. first_unmet (demands_of (option_map stmts_of o) (λ ss. AreTypedStmts c.args.gives ss k declared false))) c.in-Some.is ∙ ap (λ ss. first_unmet (AreTypedStmts c.args.gives (stmts_of ss) k declared false)) (sym c.as_slice.ensures)) (c.check_stmts.ensures.answer declared h)
