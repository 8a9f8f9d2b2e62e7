use Rattle.std.proofs.Common.{None, ap}
use Rattle.meaning.specs.Outcomes.{memories_in}
use Rattle.meaning.specs.inner.SourceThread.{context_in}
use Rattle.meaning.specs.inner.Left.{follow_of}
use Rattle.meaning.proofs.Advancing.{stands_at}
use Rattle.meaning.proofs.standing.went.Goals as goal

pub returns-in-Outside : goal.returns-in-Outside
returns-in-Outside g c = λ source.
    stands_at (follow_of source c.args.next) (record { ticks = c.args.m.ticks; locals = c.args.m.locals; due = c.in_ok-due-in-Outside.due }) (record { lefts = c.in-Outside.lefts; text = c.args.m.text; at = None }) (context_in c.args.m.context) (memories_in c.in-Outside.founds.now) (ap context_in c.in-Outside.is) c.in_ok-due-in-Outside.ensures
