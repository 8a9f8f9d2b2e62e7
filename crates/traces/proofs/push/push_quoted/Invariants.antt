use Rattle.std.proofs.Common.{◌≡◌, ◌++◌, drop}
use Rattle.std.specs.Prelude.{flat_map}
use Rattle.traces.specs.Trace.{quoted_byte}
use Rattle.traces.proofs.push.push_quoted.Given as goal

-- what is written and what is to come make up the whole
abbrev pub invariant-bytes : goal.invariant-bytes
invariant-bytes g l = l.text.items ++ flat_map quoted_byte (drop l.byte-index l.bytes) ≡ l.initial.text.items ++ flat_map quoted_byte l.bytes
