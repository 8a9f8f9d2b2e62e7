use Rattle.std.proofs.Common.{◌≡◌, ◌++◌, map, drop}
use Rattle.traces.specs.Trace.{end_lines}
use Rattle.traces.specs.Views.{thread_at_of}
use Rattle.traces.proofs.ends.push_ends.Given as goal

-- what is written and what is to come make up the whole
abbrev pub invariant-threads : goal.invariant-threads
invariant-threads g l = l.text.items ++ end_lines l.number (map thread_at_of (drop l.number l.threads)) ≡ l.initial.text.items ++ end_lines 0 (map thread_at_of l.threads)
