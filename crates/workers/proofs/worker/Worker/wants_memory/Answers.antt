use Rattle.workers.proofs.Wanting.{begin_wants, number_wants, read_wants, text_wants}
use Rattle.workers.proofs.worker.Worker.wants_memory.Goals as goal

pub returns-in-Begin : goal.returns-in-Begin
returns-in-Begin g c = λ yes running. begin_wants c.args.code.now c.args.self.now.thread.thread c.in-Begin.field-0 (c.in-Begin.ensures running)

pub returns-in-PrintText : goal.returns-in-PrintText
returns-in-PrintText g c = λ yes running. text_wants c.args.code.now c.args.self.now.thread.thread c.in-PrintText.field-0 (c.in-PrintText.ensures running)

pub returns-in-PrintNumber : goal.returns-in-PrintNumber
returns-in-PrintNumber g c = λ yes running. number_wants c.args.code.now c.args.self.now.thread.thread c.in-PrintNumber.field-0 (c.in-PrintNumber.ensures running)

pub returns-in-Read : goal.returns-in-Read
returns-in-Read g c = λ yes running.
    read_wants c.args.code.now c.args.self.now.thread.thread c.in-Read.field-0 c.in-Read.field-1 (c.in-Read.ensures running)
    (c.may_log.ensures yes c.in-Read.field-0 c.in-Read.field-1 c.in-Read.is running)
