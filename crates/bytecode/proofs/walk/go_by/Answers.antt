use Rattle.bytecode.proofs.walk.go_by.Goals as goal

pub returns-in-Inside-arrival-clause-went : goal.returns-in-Inside-arrival-clause-went
returns-in-Inside-arrival-clause-went g c = λ arguments. rw (c.in-Cancels.is, c.in-Inside-arrival.is) (c.cancel.ensures.cancelled arguments)

pub returns-in-Inside-arrival-2-clause-went : goal.returns-in-Inside-arrival-2-clause-went
returns-in-Inside-arrival-2-clause-went g c = λ arguments. rw (c.in-CancelsOuter.is, c.in-Inside-arrival-2.is) (c.cancel_outer.ensures.cancelled arguments)
