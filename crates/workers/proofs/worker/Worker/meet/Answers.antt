use Rattle.std.proofs.Common.{◌∙◌, subst, sym}
use Rattle.shared_words.specs.Rule.{SitsAfter}
use Rattle.shared_words.specs.Setup.{Setup}
use Rattle.workers.proofs.Meetings.{meets_mine, meets_theirs, sits_after}
use Rattle.workers.proofs.worker.Worker.meet.Goals as goal

pub returns-clause-floors : goal.returns-clause-floors
returns-clause-floors g c = (
  c.meet-found.result,
  c.meet-found.ensures.both.0,
  (λ was.
      let f = meets_mine c.meet-found.result c.args.self.now.seat.me c.args.other.now.seat.me c.settle.new.seat.me c.settle-2.new.seat.me c.meet-found.new.mine.me c.meet-found.new.theirs.me c.meet-found.ensures.both c.args.hall.now.setup c.args.self.now.number c.args.other.now.number c.args.self.now.thread.thread c.args.other.now.thread.thread c.args.self.now.steps c.args.other.now.steps c.args.self.now.thread.accesses c.args.other.now.thread.accesses was.1 c.requires.theirs.1 c.settle.ensures.settled c.settle-2.ensures.settled in
      ((c.meet-found.ensures.table.0 ∙ c.settle.ensures.table ∙ was.0, f.0), f.1)),
  (λ was.
      let f = meets_theirs c.meet-found.result c.args.self.now.seat.me c.args.other.now.seat.me c.settle.new.seat.me c.settle-2.new.seat.me c.meet-found.new.mine.me c.meet-found.new.theirs.me c.meet-found.ensures.both c.args.hall.now.setup c.args.self.now.number c.args.other.now.number c.args.self.now.thread.thread c.args.other.now.thread.thread c.args.self.now.steps c.args.other.now.steps c.args.self.now.thread.accesses c.args.other.now.thread.accesses c.requires.mine.1 was.1 c.settle.ensures.settled c.settle-2.ensures.settled in
      ((c.meet-found.ensures.table.1 ∙ c.settle-2.ensures.table ∙ was.0, f.0), f.1)),
)

pub returns-clause-mine : goal.returns-clause-mine
returns-clause-mine g c = (c.meet-found.ensures.table.0 ∙ c.settle.ensures.table ∙ c.requires.mine.0, (meets_mine c.meet-found.result c.args.self.now.seat.me c.args.other.now.seat.me c.settle.new.seat.me c.settle-2.new.seat.me c.meet-found.new.mine.me c.meet-found.new.theirs.me c.meet-found.ensures.both c.args.hall.now.setup c.args.self.now.number c.args.other.now.number c.args.self.now.thread.thread c.args.other.now.thread.thread c.args.self.now.steps c.args.other.now.steps c.args.self.now.thread.accesses c.args.other.now.thread.accesses c.requires.mine.1 c.requires.theirs.1 c.settle.ensures.settled c.settle-2.ensures.settled).0)

pub returns-clause-theirs : goal.returns-clause-theirs
returns-clause-theirs g c = (c.meet-found.ensures.table.1 ∙ c.settle-2.ensures.table ∙ c.requires.theirs.0, (meets_theirs c.meet-found.result c.args.self.now.seat.me c.args.other.now.seat.me c.settle.new.seat.me c.settle-2.new.seat.me c.meet-found.new.mine.me c.meet-found.new.theirs.me c.meet-found.ensures.both c.args.hall.now.setup c.args.self.now.number c.args.other.now.number c.args.self.now.thread.thread c.args.other.now.thread.thread c.args.self.now.steps c.args.other.now.steps c.args.self.now.thread.accesses c.args.other.now.thread.accesses c.requires.mine.1 c.requires.theirs.1 c.settle.ensures.settled c.settle-2.ensures.settled).0)

pub settle-requires-clause-sits : goal.settle-requires-clause-sits
settle-requires-clause-sits g c = subst (λ (s : Setup). SitsAfter s c.args.self.now.seat.me c.args.self.now.steps) (sym c.args.hall.now.key) (sits_after c.args.hall.now.setup c.args.self.now.number c.args.self.now.thread.thread c.args.self.now.steps c.args.self.now.thread.accesses c.args.self.now.seat.me c.requires.mine.1)

pub settle-requires-2-clause-sits : goal.settle-requires-2-clause-sits
settle-requires-2-clause-sits g c = subst (λ (s : Setup). SitsAfter s c.args.other.now.seat.me c.args.other.now.steps) (sym c.args.hall.now.key) (sits_after c.args.hall.now.setup c.args.other.now.number c.args.other.now.thread.thread c.args.other.now.steps c.args.other.now.thread.accesses c.args.other.now.seat.me c.requires.theirs.1)
