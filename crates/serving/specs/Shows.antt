-- The content of the report of threads in an order.
use Rattle.std.specs.Prelude.{ℕ, List, [], ◌∷◌, map, take, drop, None}
use Rattle.syntax.specs.Tree.{Global, Program}
use Rattle.syntax.specs.Names.{cells, globals}
use Rattle.syntax.specs.declared.thread_end.Halt.TheVariants.{Trapped, Wants}
use Rattle.syntax.specs.Behaviours.{Memory, Outcome, ThreadEnd, Ended, Stopped}
use Rattle.syntax.specs.Orders.{OrderOutcome}
use Rattle.report.specs.Printed.{Shown, ThreadShown, Printed}
use Rattle.report.specs.declared.printed.End.{End}
use Rattle.report.specs.declared.printed.End.TheVariants as end

-- the status of a thread after its turns in an order
abbrev pub order_end : ThreadEnd → End
order_end Ended = end.Ended
order_end (Stopped (Trapped k)) = end.Trapped k
order_end (Stopped Wants) = end.Waits
order_end (Stopped why) = end.Spent

-- a global with the words of its cells
abbrev pub shown_global : Global → List ℕ → Shown
shown_global g ws = record { name = g.name.text; ty = g.ty; words = ws }

-- globals in order of declaration, whose cells are in a memory one after another
abbrev pub shown_globals : List Global → Memory → List Shown
shown_globals [] ws = []
shown_globals (g ∷ gs) ws = shown_global g (take (cells g) ws) ∷ shown_globals gs (drop (cells g) ws)

-- threads, and the globals of a program in a memory
abbrev pub program_shown : Program → List ThreadShown → Memory → Printed
program_shown p threads memory =
    record { events = None; threads = threads; globals = shown_globals (globals p) memory; holder = None }

-- a thread after its turns
abbrev pub thread_shown : Outcome → ThreadShown
thread_shown o = record { end = order_end o.end; text = o.text }

-- threads in an order
abbrev pub order_shown : Program → OrderOutcome → Printed
order_shown p o = program_shown p (map thread_shown o.threads) o.memory
