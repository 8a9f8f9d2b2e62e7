use Rattle.std.proofs.Common.{◌∙◌, ap, map, refl, subst, sym}
use Rattle.syntax.specs.Orders.{entries}
use Rattle.syntax.specs.Views.{program_of}
use Rattle.meaning.specs.InOrder.{IsInOrder, text_and_end}
use Rattle.meaning.specs.declared.orders.Standing.{Standing}
use Rattle.meaning.specs.declared.outcome.SourceOutcome.{SourceOutcome}
use Rattle.program_tables.specs.Views.{program_in}
use Rattle.meaning.specs.inner.Turns.{does_in, seen_in}
use Rattle.meaning.proofs.Turns.{in_this_order}
use Rattle.meaning.proofs.orders.run_entries.Goals as goal

pub returns : goal.returns
returns g c =
    let source = c.in-Ok.source in
    let same = ap program_of (sym (c.in-Ok.ensures ∙ ap (λ t. t.unit) (c.typed.ensures ∙ ap (λ s. s.typed) c.safe.ensures))) in
    let known = c.in_ok-way.ensures.known in
    let way = c.take_turns.new.way in
    let all : SourceOutcome _ = record { memory = way.memory; threads = c.in_ok-threads.threads } in
    subst (λ p. IsInOrder p c.args.threads c.args.ticks c.args.order.now all) (sym same)
    (in_this_order source c.args.threads c.args.ticks c.args.order.now way.memory.items way.threads.items all (c.in_ok-take_turns.ensures.known c.args.ticks known)
    (sym (c.in_ok-take_turns.ensures.taken c.args.ticks known ∙ ap (entries (does_in (program_in source)) c.args.ticks c.args.order.now) c.in_ok-way.ensures.start)) refl
    (c.in_ok-threads.ensures ∙ ap (map (λ (s : Standing _). text_and_end (seen_in s))) c.as_slice.ensures.value))
