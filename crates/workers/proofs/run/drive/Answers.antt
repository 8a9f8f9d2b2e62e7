use Rattle.std.proofs.Common.{◌+◌, ℕ, ap, ◌∙◌, subst, zero-add}
use Rattle.workers.specs.Driving.{IsEndOfLoop}
use Rattle.workers.proofs.run.drive.Goals as goal

pub returns : goal.returns
returns g c = (
  (c.drive_on-driven.ensures.goes_on c.requires.0).0,
  subst (λ (n : ℕ). IsEndOfLoop c.args.hall.now.setup n c.drive_on-driven.result.stopped c.drive_on-driven.result.worker) (ap (λ (n : ℕ). n + c.args.budget) c.requires.1 ∙ zero-add c.args.budget) c.drive_on-driven.ensures.ends,
  c.drive_on-driven.ensures.number,
)
