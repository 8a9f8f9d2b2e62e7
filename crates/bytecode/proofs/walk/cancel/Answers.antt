use Rattle.bytecode.proofs.walk.cancel.Goals as goal

pub returns-in-Some-clause-cancelled : goal.returns-in-Some-clause-cancelled
returns-in-Some-clause-cancelled g c = λ arguments. rw (← c.in-Some.ensures arguments) c.reopen.ensures.reopened

pub returns-in-None-clause-cancelled : goal.returns-in-None-clause-cancelled
returns-in-None-clause-cancelled g c = λ arguments. rw (← c.in-None.ensures arguments)
