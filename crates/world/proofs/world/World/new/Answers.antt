use Rattle.std.proofs.Common.{⊎_elim, arith}
use Rattle.world.proofs.Opening.{ends_alone}
use Rattle.world.proofs.world.World.new.Goals as goal

pub returns-then-threads-eq0-clause-alone : goal.returns-then-threads-eq0-clause-alone
returns-then-threads-eq0-clause-alone g c = ends_alone c.args.code.now c.note_valid.ensures

pub returns-in-Ok-clause-alone : goal.returns-in-Ok-clause-alone
returns-in-Ok-clause-alone g c = ends_alone c.args.code.now c.note_valid.ensures

pub returns-in-Err-clause-alone : goal.returns-in-Err-clause-alone
returns-in-Err-clause-alone g c = ends_alone c.args.code.now c.note_valid.ensures

pub returns-in-Ok-clause-wrong : goal.returns-in-Ok-clause-wrong
returns-in-Ok-clause-wrong g c = (λ e. absurd (cc), λ f. absurd (⊎_elim (λ z. absurd (omega arith)) (λ z. absurd (omega arith)) f))
