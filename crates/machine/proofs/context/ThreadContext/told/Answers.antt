use Rattle.machine.proofs.context.ThreadContext.told.Goals as goal

pub returns-in-None-clause-makes : goal.returns-in-None-clause-makes
returns-in-None-clause-makes g c = c.work.ensures c.args.answer
