use Rattle.std.proofs.Common.{◌≡◌, length}
use Rattle.world.specs.inner.Following.{AreFirstFrom}
use Rattle.world.proofs.world.first_threads.Given as goal

abbrev pub invariant-numbers : goal.invariant-numbers
invariant-numbers g l = record {
  count : length l.threads.items ≡ l.number;
  first : AreFirstFrom l.code 0 l.threads.items;
}
