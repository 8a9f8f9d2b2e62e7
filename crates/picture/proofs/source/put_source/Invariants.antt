use Rattle.std.proofs.Common.{◌≡◌, ◌++◌, drop}
use Rattle.picture.specs.Boxes.{source_xml}
use Rattle.picture.proofs.source.put_source.Given as goal

-- what is written and what is to come make up the whole
abbrev pub invariant-bytes : goal.invariant-bytes
invariant-bytes g l =
    l.to.items ++ source_xml (drop l.byte-index l.bytes) ≡ l.initial.to.items ++ source_xml l.bytes
