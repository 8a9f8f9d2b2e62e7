use Rattle.std.proofs.Common.{◌≡◌, drop}
use Rattle.std.specs.List.{flat_map}
use Rattle.syntax.specs.Typing.{first_unmet}
use Rattle.safety.specs.Faults.{demands_at}
use Rattle.safety.specs.Views.{sites_of_own}
use Rattle.safety.specs.Sets.{set_of}
use Rattle.safety.specs.inner.Rest.{rest_of}
use Rattle.safety.proofs.demands.fault_among.Given as goal

abbrev pub invariant-each : goal.invariant-each
invariant-each g l = first_unmet (flat_map (λ s. demands_at (rest_of (set_of l.not_safe)) (set_of l.outer) s s.construct) (sites_of_own (drop l.site-index l.sites))) ≡ first_unmet (flat_map (λ s. demands_at (rest_of (set_of l.not_safe)) (set_of l.outer) s s.construct) (sites_of_own l.sites))
