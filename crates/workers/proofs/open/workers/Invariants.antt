use Rattle.std.proofs.Common.{◌≡◌, ◌-◌, [], vec_len}
use Rattle.shared_words.specs.Views.{first_parts}
use Rattle.workers.specs.Workers.{AreWorkersFrom}
use Rattle.workers.proofs.open.workers.Given as goal

abbrev pub invariant-numbers : goal.invariant-numbers
invariant-numbers g l = record {
  table : l.seat.table_id ≡ l.words.table_id;
  seat : l.seat.me ≡ (first_parts l.setup l.number (l.setup.threads - l.number), []);
  count : vec_len l.all ≡ l.number;
  workers : AreWorkersFrom l.words.table_id l.setup 0 l.all.items;
}
