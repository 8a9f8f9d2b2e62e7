use Rattle.std.proofs.Common.{◌∙◌, ◌+◌, ap, arith, drop, refl, sym}
use Rattle.std.proofs.lemmas.List.{at_drop_more, drop_all}
use Rattle.syntax.specs.Orders.{entries}
use Rattle.program_tables.specs.Views.{program_in}
use Rattle.meaning.specs.inner.Turns.{does_in, progress}
use Rattle.meaning.proofs.orders.take_turns.Goals as goal

pub entries-init : goal.entries-init
entries-init g c = λ ticks known. (known, refl)

pub entries-preserved : goal.entries-preserved
entries-preserved g c = λ ticks known.
    let does = does_in (program_in c.args.source.now) in
    let before = c.entries.invariant ticks known in (
      c.in_ok-take_turn.ensures.known ticks before.0,
      ap (entries does ticks (drop (c.entries.t-index + 1) c.args.order.now)) (c.in_ok-take_turn.ensures.taken ticks before.0)
          ∙ sym (at_drop_more (λ ts. entries does ticks ts (progress c.entries.way)) c.args.order.now c.entries.t-index 0 c.entries-test.true) ∙ before.1,
    )

pub returns-clause-known : goal.returns-clause-known
returns-clause-known g c = λ ticks known. (c.entries.invariant ticks known).0

pub returns-clause-taken : goal.returns-clause-taken
returns-clause-taken g c = λ ticks known.
    let does = does_in (program_in c.args.source.now) in
    let over = drop_all c.entries.t-index c.args.order.now (let h = c.entries-test.false in omega (arith, h)) in
    sym (ap (λ left. entries does ticks left (progress c.entries.way)) over) ∙ (c.entries.invariant ticks known).1
