use Rattle.parse.proofs.code.Nodes.{stmt_of_any_if}
use Rattle.parse.proofs.code.Made.{made_is, made_fails}
use Rattle.parse.proofs.stmt.if_of.Goals as goal

pub returns-in-Ok : goal.returns-in-Ok
returns-in-Ok g c = made_is _ _ _ _ _ _ c.in-Ok.is (stmt_of_any_if c.args.condition c.in-Ok.both.then c.in-Ok.both.other)

pub returns-in-Err : goal.returns-in-Err
returns-in-Err g c = made_fails _ _ _ _ c.in-Err.is
