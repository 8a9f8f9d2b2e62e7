-- The Rust types as plain ones.
use Rattle.traces.specs.Turns as plain
use Rattle.traces.specs.Columns as columns
use Rattle.traces.specs.declared.columns.Column.{Column}
use Rattle.traces.specs.declared.turn.Named.{Named}
use Rattle.traces.specs.declared.turn.ThreadAt.{ThreadAt}
use Rattle.traces.specs.declared.turn.TurnShown.{TurnShown}

module _ {A : Type 0} where
  abbrev pub named_of : Named A → plain.Named
  named_of g = record { name = g.name; ty = g.ty; length = g.length }

  abbrev pub turn_of : TurnShown A → plain.TurnShown
  turn_of t = record {
    thread = t.thread;
    is_idle = t.is_idle;
    is_cancelled = t.is_cancelled;
    marks = t.marks;
    printed = t.printed;
    status = t.status;
    at = t.at;
    words = t.words;
    fold = t.fold;
  }

  abbrev pub thread_at_of : ThreadAt A → plain.ThreadAt
  thread_at_of t = record { status = t.status; at = t.at }

  abbrev pub column_of : Column A → columns.Column
  column_of c = record { cell = c.cell; name = c.name; ty = c.ty; first = c.first; width = c.width }
