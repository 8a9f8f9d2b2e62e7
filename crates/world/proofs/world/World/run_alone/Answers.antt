use Rattle.world.proofs.Resting.{goes_more, made_more}
use Rattle.world.proofs.world.World.run_alone.Goals as goal

pub steps-preserved : goal.steps-preserved
steps-preserved g c = record {
  made = made_more c.args.self.now c.steps.self c.step.new.self c.args.t c.steps.made c.steps.invariant.made c.in_default.ensures.ok;
  goes_on = goes_more c.args.self.now c.steps.self c.args.t c.steps.made c.steps.invariant.made c.steps.invariant.goes_on (c.rests.ensures.goes_on c.if-rests.false);
  explained = c.step.ensures.explained;
}
