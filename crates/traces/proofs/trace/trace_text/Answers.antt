use Rattle.std.proofs.Common.{◌∙◌, ◌++◌, ap, ap₂, map}
use Rattle.traces.specs.Trace.{end_lines, table_text}
use Rattle.traces.specs.Views.{column_of, thread_at_of, turn_of}
use Rattle.traces.proofs.trace.trace_text.Goals as goal

pub returns : goal.returns
returns g c =
    c.in_ok-push_ends.ensures ∙ ap (λ t. t ++ end_lines 0 (map thread_at_of c.args.ends.now))
    (c.in_ok-push_table.ensures ∙ ap₂ (λ start columns. start ++ table_text columns (map turn_of c.args.begun.now) (map turn_of c.args.turns.now)) c.new-text.ensures.items
    (ap (map column_of) c.as_slice.ensures ∙ c.in_ok-columns.ensures))
