use Rattle.std.proofs.Common.{◌<◌, ℕ, get_or}
use Rattle.serving.proofs.by_code.names_threads.Given as goal

abbrev pub invariant-entries : goal.invariant-entries
invariant-entries l = (k : ℕ) → k < l.entry → get_or l.order k 0 < l.threads
