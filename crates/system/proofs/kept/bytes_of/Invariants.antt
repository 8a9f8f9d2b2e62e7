use Rattle.std.proofs.Common.{◌≡◌, drop}
use Rattle.system.specs.Kept.{kept_in}
use Rattle.system.proofs.kept.bytes_of.Given as goal

-- if the file is kept, it is among the remaining ones
abbrev pub invariant-files : goal.invariant-files
invariant-files l = kept_in (drop l.file-index l.files) l.name ≡ kept_in l.files l.name
