use Rattle.std.proofs.Common.{refl}
use Rattle.workers.proofs.Opens.{is_some}
use Rattle.workers.proofs.hall.Hall.open.Goals as goal

pub open_hall-requires : goal.open_hall-requires
open_hall-requires g c = is_some c.args.threads c.args.threads c.if-threads-eq0.false refl

pub returns-in-Ok-clause-setup : goal.returns-in-Ok-clause-setup
returns-in-Ok-clause-setup g c = (
  c.in-Ok.ensures.setup.0,
  c.in-Ok.ensures.setup.1,
  is_some c.args.threads c.args.threads c.if-threads-eq0.false refl,
  c.if-threads-gt-MOST_THREADS.false,
)
