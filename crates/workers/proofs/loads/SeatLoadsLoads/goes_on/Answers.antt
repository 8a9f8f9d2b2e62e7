use Rattle.std.proofs.Common.{◌+◌, refl, arith}
use Rattle.workers.proofs.Going.{goes_further}
use Rattle.workers.proofs.Resting.{rested}
use Rattle.workers.proofs.loads.SeatLoadsLoads.goes_on.Goals as goal

pub returns : goal.returns
returns g c = λ code s from n at k next led rep of. (
  led.0,
  led.1,
  led.2,
  λ same number steps was.
      let key = s.words.now.key in
      let x = led.3 same number steps was in
      let r = rested key number at.thread (steps + n) at.accesses c.args.self.now.seat.now.me x.0 code same k next (steps + (n + k)) at.accesses rep of (omega arith) refl in
      (r.0, goes_further key.code was.part x.0.part r.0.part was.now x.0.now r.0.now x.1 r.1),
)
