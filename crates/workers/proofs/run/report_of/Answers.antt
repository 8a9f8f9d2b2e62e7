use Rattle.std.proofs.Common.{arith}
use Rattle.workers.specs.Closing.{AllHere}
use Rattle.workers.proofs.Numbers.{all_here}
use Rattle.workers.proofs.Ran.{ran, some_worker}
use Rattle.workers.proofs.run.report_of.Goals as goal

pub gather-words-requires-clause-some : goal.gather-words-requires-clause-some
gather-words-requires-clause-some c =
    let key = c.args.hall.setup in
    let ws = c.in-Ok.workers.items in
    let here : AllHere ws key.threads = all_here ws key.threads (λ n lt. c.in-Ok.ensures.2 n (c.requires.here n lt)) in
    let some = some_worker ws key.threads c.args.hall.some_thread here in
    let ok = c.in-Ok.workers.ok in omega arith

pub returns : goal.returns
returns c = λ does means.
    let key = c.args.hall.setup in
    let ws = c.in-Ok.workers.items in
    let here : AllHere ws key.threads = all_here ws key.threads (λ n lt. c.in-Ok.ensures.2 n (c.requires.here n lt)) in
    ran does c.args.budget key c.requires.few means c.args.hall.table.shared.table_id ws c.in-Ok.ensures.0 c.gather-words.result.words.items c.holder-held.result _ (c.gather-words.ensures c.in-Ok.ensures.0) here c.memory.ensures c.holder-held.ensures c.in-Ok.ensures.1
