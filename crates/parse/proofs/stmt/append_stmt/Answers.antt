use Rattle.std.proofs.Common.{◌≡◌, [], ◌∷◌, ◌++◌, map}
use Rattle.std.proofs.lemmas.List.{map_push}
use Rattle.std.proofs.lemmas.Result.{err_from_is_err_and}
use Rattle.syntax.specs.Views.{stmt_of}
use Rattle.parse.proofs.code.Made.{made_is, made_fails}
use Rattle.parse.proofs.stmt.append_stmt.Goals as goal

pub returns : goal.returns
returns g c = made_fails _ _ _ _ c.in-Err.is

pub returns-in_err-push-in-Ok : goal.returns-in_err-push-in-Ok
returns-in_err-push-in-Ok g c =
    let p = err_from_is_err_and c.from_residual.result c.from_residual.ensures.1 in
    rw (p.1, p.2) (λ read h. tt)

pub returns-in-Ok : goal.returns-in-Ok
returns-in-Ok g c =
    let e : map stmt_of c.push.new.self ≡ map stmt_of c.args.all ++ stmt_of c.in-Ok.one ∷ [] = rw c.in_ok-push-in-Ok.ensures.ok (map_push _ c.args.all c.in-Ok.one) in
    made_is _ _ _ _ _ _ c.in-Ok.is e
