use Rattle.std.proofs.Common.{◌≡◌, drop}
use Rattle.syntax.specs.Typing.{first_unmet}
use Rattle.safety.specs.Views.{sites_of_own}
use Rattle.safety.specs.Sets.{set_of}
use Rattle.separation.specs.Touching.{separation_demands}
use Rattle.separation.proofs.demands.fault_among.Given as goal

abbrev pub invariant-each : goal.invariant-each
invariant-each g l = first_unmet (separation_demands (set_of l.touching) (sites_of_own (drop l.site-index l.sites))) ≡ first_unmet (separation_demands (set_of l.touching) (sites_of_own l.sites))
