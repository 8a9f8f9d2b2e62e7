use Rattle.std.proofs.Common.{◌≡◌, ◌++◌, drop}
use Rattle.std.specs.Prelude.{codes, decimal, flat_map}
use Rattle.report.proofs.outcome_list.push_others.Given as goal

-- what is written and what is to come make up the whole
abbrev pub invariant-threads : goal.invariant-threads
invariant-threads g l =
    l.list.items ++ flat_map (λ u. codes "," ++ decimal u) (drop l.thread-index l.threads) ≡ l.initial.list.items ++ flat_map (λ u. codes "," ++ decimal u) l.threads
