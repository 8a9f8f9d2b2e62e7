-- The Rust types as plain ones.
use Rattle.std.specs.Prelude.{map}
use Rattle.report.specs.Printed as plain
use Rattle.report.specs.declared.printed.ThreadShown.{ThreadShown}
use Rattle.report.specs.declared.printed.Shown.{Shown}
use Rattle.report.specs.declared.printed.Printed.{Printed}
use Rattle.report.specs.OutcomeList as lists
use Rattle.report.specs.declared.outcome_list.ReportedOrder.{ReportedOrder}

module _ {A : Type 0} where
  abbrev pub thread_of : ThreadShown A → plain.ThreadShown
  thread_of thread = record { end = thread.end; text = thread.text }

  abbrev pub shown_of : Shown A → plain.Shown
  shown_of global = record { name = global.name; ty = global.ty; words = global.words }

  abbrev pub printed_of : Printed A → plain.Printed
  printed_of p = record {
    events = p.events;
    threads = map thread_of p.threads;
    globals = map shown_of p.globals;
    holder = p.holder;
  }

  abbrev pub reported_of : ReportedOrder A → lists.ReportedOrder
  reported_of o = record { order = o.order; shown = printed_of o.shown }
