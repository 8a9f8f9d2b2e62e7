use Rattle.std.proofs.Common.{◌≡◌, ◌++◌, drop}
use Rattle.std.specs.Prelude.{codes, decimal, flat_map}
use Rattle.refinements.proofs.told.push_others.Given as goal

-- what is written and what is to come make up the whole
abbrev pub invariant-threads : goal.invariant-threads
invariant-threads g l =
    l.text.items ++ flat_map (λ u. codes "," ++ decimal u) (drop l.thread-index l.threads) ≡ l.initial.text.items ++ flat_map (λ u. codes "," ++ decimal u) l.threads
