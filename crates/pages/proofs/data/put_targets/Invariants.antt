use Rattle.std.proofs.Common.{◌≡◌, ◌++◌, drop, map}
use Rattle.pages.specs.Data.{target_token}
use Rattle.pages.proofs.data.put_targets.Given as goal

-- what is written and what is to come make up the whole
abbrev pub invariant-targets : goal.invariant-targets
invariant-targets g l =
    (l.to.before ≡ l.initial.to.before) × (l.to.tokens ++ map target_token (drop l.target-index l.targets) ≡ l.initial.to.tokens ++ map target_token l.targets)
