use Rattle.std.proofs.Common.{map, refl}
use Rattle.traces.specs.Trace.{counted_lines, number_after, turn_lines}
use Rattle.traces.specs.Turns.{TurnShown}
use Rattle.traces.specs.Views.{column_of, turn_of}
use Rattle.traces.proofs.Lines.{next_numbered}
use Rattle.traces.proofs.trace.push_turns.Goals as goal

pub turns-preserved : goal.turns-preserved
turns-preserved g s =
    let columns = map column_of s.args.columns.now in
    next_numbered turn_of (counted_lines columns) (λ n (t : TurnShown). number_after n t.fold) (turn_lines columns) (λ n y ys. refl) s.args.turns.now s.turns.turn-index s.turns.number _ s.turn-item.result s.turns.text.items _ _ s.turn-item.is s.turns-test.true s.turns.invariant s.in_ok-push_counted.ensures s.in_ok-number.ensures
