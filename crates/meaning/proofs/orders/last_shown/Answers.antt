use Rattle.std.proofs.Common.{◌∙◌, ◌-◌, ap, drop, length}
use Rattle.syntax.specs.Orders.{last_left}
use Rattle.meaning.specs.Outcomes.{memories_in}
use Rattle.meaning.proofs.Turns.{left_of_both}
use Rattle.meaning.proofs.orders.last_shown.Goals as goal

pub returns : goal.returns
returns g c =
    left_of_both c.args.memory.now c.in_ok-first.first.items c.in_ok-last.last.items c.args.before c.saturating_sub-rest.result c.args.thread.now.thread.shown.lefts.items c.args.thread.now.further.lefts.items
    (c.saturating_sub-rest.ensures ∙ ap (λ xs. c.args.before - length xs) c.as_slice-lefts.ensures.value)
    (c.in_ok-first.ensures ∙ ap (λ xs. last_left c.args.memory.now (drop c.args.before (memories_in xs))) c.as_slice-lefts.ensures.value)
    (c.in_ok-last.ensures ∙ (λ i. last_left (c.as_slice.ensures.value i) (drop c.saturating_sub-rest.result (memories_in (c.as_slice-further.ensures.value i)))))
