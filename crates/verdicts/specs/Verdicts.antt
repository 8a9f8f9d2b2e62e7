-- Counts of verdicts.
use Rattle.std.specs.Prelude.{◌≡◌}
use Rattle.verdicts.specs.declared.tally.Tally.{Tally}

-- every question has passed
abbrev pub HaveAllPassed : Tally → Type 0
HaveAllPassed tally = (tally.failed ≡ 0) × (tally.undecided ≡ 0) × (tally.refused ≡ 0)
