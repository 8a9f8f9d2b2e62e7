use Rattle.syntax.proofs.trees.Seen.{stmt_of_for}
use Rattle.parse.proofs.code.Made.{made_is, made_fails}
use Rattle.parse.proofs.stmt.for_of.Goals as goal

pub returns-in-Ok : goal.returns-in-Ok
returns-in-Ok g c = made_is _ _ _ _ _ _ c.in-Ok.is (stmt_of_for c.args.head c.in-Ok.body)

pub returns-in-Err : goal.returns-in-Err
returns-in-Err g c = made_fails _ _ _ _ c.in-Err.is
