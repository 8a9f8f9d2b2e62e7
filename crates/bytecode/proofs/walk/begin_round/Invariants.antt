use Rattle.std.proofs.Common.{◌≡◌, ◌-◌}
use Rattle.bytecode.specs.inner.Walking.{begin_round}
use Rattle.bytecode.proofs.walk.begin_round.Given as goal

-- the steps that are left lead from here where all lead
abbrev pub invariant-outward : goal.invariant-outward
invariant-outward l = begin_round l.first l.arrivals (l.times - l.made) l.round ≡ begin_round l.first l.arrivals l.times l.begin
