use Rattle.report.specs.Views.{printed_of}
use Rattle.serving.proofs.Tracing.{order_traced}
use Rattle.serving.proofs.trace.traced.Goals as goal

pub returns-in-Ok-replay_code-clause-ok : goal.returns-in-Ok-replay_code-clause-ok
returns-in-Ok-replay_code-clause-ok g c =
    let replayed = c.in-Ok-replay_code.replayed in
    order_traced c.args.threads c.args.order.now c.args.text.now c.in-Ok.compiled _ _ replayed.made.items replayed.stop (printed_of replayed.printed) c.in-Ok.ensures.source c.in-Ok.ensures.code c.in-Ok-lines_asked.ensures.turns c.as_slice.ensures.value (c.in-Ok-replay_code.ensures.ok c.in-Ok.ensures.code)
