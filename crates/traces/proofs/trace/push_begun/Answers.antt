use Rattle.std.proofs.Common.{map, []}
use Rattle.traces.specs.Trace.{turn_line}
use Rattle.traces.specs.Views.{column_of, turn_of}
use Rattle.traces.proofs.Lines.{next_line}
use Rattle.traces.proofs.trace.push_begun.Goals as goal

pub begun-preserved : goal.begun-preserved
begun-preserved g s = next_line turn_of (turn_line (map column_of s.args.columns.now) []) s.args.begun.now s.begun.turn-index s.turn-item.result s.begun.text.items _ _ s.turn-item.is s.begun-test.true s.begun.invariant s.in_ok-push_turn.ensures
