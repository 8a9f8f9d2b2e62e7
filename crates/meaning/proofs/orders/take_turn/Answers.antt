use Rattle.std.proofs.Common.{◌<◌, arith, length}
use Rattle.meaning.proofs.Turns.{enters, known_one, known_set, on_ok}
use Rattle.meaning.proofs.orders.take_turn.Goals as goal

pub returns-clause-known : goal.returns-clause-known
returns-clause-known g c =
    on_ok c.turn.result
    (λ follows ticks known.
    let named : c.args.t < length c.args.way.now.threads.items = search (arith, c.if-t-len.false) in
    known_set c.args.source.now ticks c.args.t c.args.way.now.threads.items c.turn.new.thread known
    (follows ticks c.args.t (known_one c.args.source.now ticks c.args.t c.args.way.now.threads.items c.index_mut.result.now named c.index_mut.ensures.value known)))
    c.turn.ensures.known

pub returns-clause-taken : goal.returns-clause-taken
returns-clause-taken g c =
    on_ok c.turn.result
    (λ follows ticks known.
    let named : c.args.t < length c.args.way.now.threads.items = search (arith, c.if-t-len.false) in
    enters c.args.source.now ticks c.args.t c.args.way.now.memory.items c.turn.new.memory.items c.args.way.now.threads.items c.index_mut.result.now c.turn.new.thread named c.index_mut.ensures.value
    (follows ticks c.args.t (known_one c.args.source.now ticks c.args.t c.args.way.now.threads.items c.index_mut.result.now named c.index_mut.ensures.value known)))
    c.turn.ensures.taken
