use Rattle.std.proofs.Common.{None}
use Rattle.system.specs.Kept.{AreReadFrom}
use Rattle.system.proofs.kept.keep_sources.Given as goal

-- the sources so far were read
abbrev pub invariant-names : goal.invariant-names
invariant-names g l = AreReadFrom None (g.F.Files.contents l.files) l.sources.items
