use Rattle.std.proofs.Common.{◌<◌, arith, refl, subst}
use Rattle.std.proofs.lemmas.List.{take_all}
use Rattle.std.proofs.lemmas.List.Elements.{All-more}
use Rattle.meaning.specs.InOrder.{NamesThreads}
use Rattle.meaning.proofs.orders.names_threads.Goals as goal

pub entries-preserved : goal.entries-preserved
entries-preserved c = All-more (λ t. t < c.args.threads) c.args.order.now c.entries.t-index 0 c.entries-test.true c.entries.invariant (let h = c.if-t-threads.false in omega (arith, h))

pub returns : goal.returns
returns c = ((λ yes. subst (NamesThreads c.args.threads) (take_all c.entries.t-index c.args.order.now (let h = c.entries-test.false in omega (arith, h))) c.entries.invariant), (λ h. refl))
