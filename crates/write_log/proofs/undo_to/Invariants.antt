use Rattle.std.proofs.Common.{◌≡◌, ◌≤◌, take, drop, vec_len, vec_capacity}
use Rattle.write_log.specs.inner.Journal.{all_undone, CanUndoAll}
use Rattle.write_log.proofs.undo_to.Given as goal

-- what is left of the journal leads from the pairs as they are now to where all of it leads
abbrev pub invariant-loop-journal : goal.invariant-loop-journal
invariant-loop-journal g l = record {
  within : l.length ≤ vec_len l.journal;
  left : take l.length l.journal.items ≡ take l.length l.fn.journal.items;
  leads : all_undone (drop l.length l.journal.items) l.pairs.pairs ≡ all_undone (drop l.length l.fn.journal.items) l.fn.pairs.pairs;
  undoes : CanUndoAll (drop l.length l.journal.items) l.pairs.pairs;
  pairs_room : l.fn.pairs.room ≤ l.pairs.room;
  capacity : vec_capacity l.journal ≡ vec_capacity l.fn.journal;
}

abbrev pub decreases-loop-journal : goal.decreases-loop-journal
decreases-loop-journal g l = vec_len l.journal
