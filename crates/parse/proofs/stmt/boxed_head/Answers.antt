use Rattle.std.proofs.Common.{Ok, option_map, ap, sym, ◌∙◌}
use Rattle.std.proofs.lemmas.Result.{err_from_is_err_and}
use Rattle.lex.specs.Tokens.{toks}
use Rattle.syntax.specs.Views.{expr_of, simple_of, start_of}
use Rattle.parse.proofs.stmt.boxed_head.Goals as goal

pub returns-in_err-head : goal.returns-in_err-head
returns-in_err-head g c =
    let p = err_from_is_err_and c.from_residual.result c.from_residual.ensures.1 in
    rw (p.1, p.2) c.in_err-head.ensures

pub returns-in_err-new : goal.returns-in_err-new
returns-in_err-new g c =
    let p = err_from_is_err_and c.from_residual-in_err-new.result c.from_residual-in_err-new.ensures.1 in
    rw (p.1, p.2) tt

pub returns : goal.returns
returns g c =
    c.in_ok-head.ensures
    ∙ ap (λ h. Ok ((start_of h.start, (option_map expr_of h.condition, option_map simple_of h.step)), toks c.in_ok-head.rest.now)) (sym c.in_ok-new.ensures)
