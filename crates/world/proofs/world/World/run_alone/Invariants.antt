use Rattle.std.proofs.Common.{◌≡◌, replicate}
use Rattle.world.specs.Resting.{GoesOnAlone}
use Rattle.world.specs.Simulations.{IsExplained, further}
use Rattle.world.proofs.world.World.run_alone.Given as goal

abbrev pub invariant-steps : goal.invariant-steps
invariant-steps g l = record {
  made : l.self ≡ further l.initial.self (replicate l.made l.t);
  goes_on : GoesOnAlone l.initial.self l.t l.made;
  explained : IsExplained l.self;
}
