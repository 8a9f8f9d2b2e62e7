use Rattle.std.proofs.Common.{◌≡◌, take}
use Rattle.world.specs.Simulations.{IsExplained, further}
use Rattle.world.proofs.world.World.run.Given as goal

abbrev pub invariant-steps : goal.invariant-steps
invariant-steps g l = record {
  made : l.self ≡ further l.initial.self (take l.made l.steps);
  explained : IsExplained l.self;
}
