use Rattle.std.proofs.Common.{map, take}
use Rattle.std.specs.Prelude.{string_bytes}
use Rattle.system.specs.Kept.{kept_in}
use Rattle.system.specs.Tests.{AreFilesPassed}
use Rattle.verdicts.specs.Verdicts.{HaveAllPassed}
use Rattle.system.proofs.tests.test_files.Given as goal

-- if all questions have passed, so have those of the files so far
abbrev pub invariant-names : goal.invariant-names
invariant-names g l = HaveAllPassed l.tally → AreFilesPassed (g.F.Files.contents l.files) (kept_in l.kept) (map string_bytes (take l.name-index l.name-items))
