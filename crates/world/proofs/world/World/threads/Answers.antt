use Rattle.std.proofs.Common.{length, subst}
use Rattle.world.specs.Simulations.{IsExplained}
use Rattle.world.proofs.Stepping.{explained}
use Rattle.world.proofs.world.World.threads.Goals as goal

pub returns-clause-explained : goal.returns-clause-explained
returns-clause-explained g c = subst IsExplained c.self.view_is (explained (record { code = c.self.inside.code; threads = length c.self.inside.threads.items; trace = c.self.inside.trace.items }) c.self.inside.lock c.self.inside.words.items c.self.inside.threads.items c.self.inside.accesses c.self.invariant)
