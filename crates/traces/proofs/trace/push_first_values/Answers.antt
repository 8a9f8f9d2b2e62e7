use Rattle.traces.specs.Columns.{Column, value_text}
use Rattle.traces.specs.Trace.{column_text}
use Rattle.traces.specs.Views.{column_of}
use Rattle.traces.proofs.Lines.{next_line}
use Rattle.traces.proofs.trace.push_first_values.Goals as goal

pub columns-preserved : goal.columns-preserved
columns-preserved g s = next_line column_of (λ (c : Column). column_text c.width (value_text c.ty c.first)) s.args.columns.now s.columns.column-index s.column-item.result s.columns.text.items _ _ s.column-item.is s.columns-test.true s.columns.invariant s.in_ok-push_first_value.ensures
