use Rattle.std.proofs.Common.{◌<◌, arith}
use Rattle.std.proofs.lemmas.List.Elements.{All-from_get_or}
use Rattle.serving.proofs.by_code.names_threads.Goals as goal

pub returns : goal.returns
returns c = λ _.
    All-from_get_or (λ t. t < c.args.threads) c.args.order.now 0
    (λ k lt. c.entries.invariant k (let last = c.entries-test.false in omega (arith, lt, last)))
