use Rattle.meaning.proofs.Parts.{block_is, do_while_is, for_is, if_is, while_is}
use Rattle.meaning.proofs.left.parts_of.Goals as goal

pub returns-in-Block : goal.returns-in-Block
returns-in-Block g c = block_is c.args.s.now c.in-Block.ss c.as_slice.result.now c.in-Block.is c.as_slice.ensures

pub returns-in-If : goal.returns-in-If
returns-in-If g c = if_is c.args.s.now c.in-If.c c.in-If.a c.get.result.now c.in-If.b c.in-If.is c.get.ensures

pub returns-in-While : goal.returns-in-While
returns-in-While g c = while_is c.args.s.now c.in-While.c c.in-While.a c.get-in-While.result.now c.in-While.is c.get-in-While.ensures

pub returns-in-DoWhile : goal.returns-in-DoWhile
returns-in-DoWhile g c = do_while_is c.args.s.now c.in-DoWhile.a c.get-in-DoWhile.result.now c.in-DoWhile.c c.in-DoWhile.is c.get-in-DoWhile.ensures

pub returns-in-For : goal.returns-in-For
returns-in-For g c = for_is c.args.s.now c.in-For.head c.get-in-For.result.now c.in-For.a c.get-in-For-2.result.now c.in-For.is c.get-in-For.ensures c.get-in-For-2.ensures
