use Rattle.std.proofs.Common.{ℕ, sym, refl, subst, add-zero}
use Rattle.workers.specs.Works.{GoesOnFrom, Works}
use Rattle.workers.proofs.Going.{goes_nowhere}
use Rattle.workers.proofs.loads.SeatLoadsLoads.stays.Goals as goal

pub returns : goal.returns
returns g c = λ code from. (
  refl,
  refl,
  refl,
  λ same number steps was.
      let key = c.args.self.now.words.now.key in
      subst (λ (k : ℕ). (is : Works key number from.thread k from.accesses c.args.self.now.seat.now.me) × GoesOnFrom key.code was.part was.now is.part is.now) (sym (add-zero steps)) (was, goes_nowhere key.code was.part was.now),
)
