use Rattle.std.proofs.Common.{◌≡◌, ℕ, drop}
use Rattle.syntax.specs.Orders.{entries}
use Rattle.program_tables.specs.Views.{program_in}
use Rattle.meaning.specs.inner.Turns.{AreKnown, does_in, progress}
use Rattle.meaning.proofs.orders.take_turns.Given as goal

-- what is left of the order leads from here to where all of it leads from the beginning
abbrev pub invariant-entries : goal.invariant-entries
invariant-entries g l =
    (ticks : ℕ) → AreKnown l.source ticks 0 l.initial.way.threads.items →
    AreKnown l.source ticks 0 l.way.threads.items
    × (entries (does_in (program_in l.source)) ticks (drop l.t-index l.order) (progress l.way) ≡ entries (does_in (program_in l.source)) ticks l.order (progress l.initial.way))
