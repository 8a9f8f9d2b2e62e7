use Rattle.std.proofs.Common.{◌≡◌, ◌++◌, drop}
use Rattle.traces.specs.Trace.{trimmed}
use Rattle.traces.proofs.push.push_trimmed.Given as goal

-- what is written and what is to come make up the whole
abbrev pub invariant-bytes : goal.invariant-bytes
invariant-bytes g l = l.text.items ++ trimmed (drop l.at l.bytes) ≡ l.initial.text.items ++ trimmed l.bytes
