use Rattle.std.proofs.Common.{ap}
use Rattle.std.proofs.lemmas.Result.{err_from_is_err_and}
use Rattle.syntax.specs.Views.{stmt_of}
use Rattle.parse.proofs.code.Made.{made_is, made_fails}
use Rattle.parse.proofs.stmt.box_stmt.Goals as goal

pub returns-in_ok-new-in-Ok : goal.returns-in_ok-new-in-Ok
returns-in_ok-new-in-Ok g c = made_is _ _ _ _ _ _ c.in-Ok.is (ap stmt_of c.in_ok-new-in-Ok.ensures)

pub returns-in_err-new-in-Ok : goal.returns-in_err-new-in-Ok
returns-in_err-new-in-Ok g c =
    let p = err_from_is_err_and c.from_residual.result c.from_residual.ensures.1 in
    rw (p.1, p.2) (λ read h. tt)

pub returns-in-Err : goal.returns-in-Err
returns-in-Err g c = made_fails _ _ _ _ c.in-Err.is
