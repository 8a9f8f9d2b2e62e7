use Rattle.std.proofs.Common.{◌∙◌, [], ap, arith, replicate}
use Rattle.meaning.specs.inner.Turns.{founds_in}
use Rattle.meaning.proofs.Turns.{begun_more, known_none}
use Rattle.meaning.proofs.orders.add_threads.Goals as goal

pub threads-init : goal.threads-init
threads-init g c = λ none. (known_none c.args.source.now c.args.ticks c.args.threads.now.items none, ap founds_in none)

pub threads-preserved : goal.threads-preserved
threads-preserved g c = λ none.
    let before = c.threads.invariant none in
    begun_more c.args.source.now c.args.ticks c.threads.t c.threads.threads.items c.push.new.self.items c.in_ok-thread.thread c.in-Ok.ensures.items before.0 before.1 c.in_ok-thread.ensures.known c.in_ok-thread.ensures.founds

pub returns-clause-known : goal.returns-clause-known
returns-clause-known g c = λ none. (c.threads.invariant none).0

pub returns-clause-founds : goal.returns-clause-founds
returns-clause-founds g c = λ none. (c.threads.invariant none).1 ∙ ap (λ n. replicate n []) (let h = c.threads-test.false in omega (arith, h, c.threads.auto.t-end))
