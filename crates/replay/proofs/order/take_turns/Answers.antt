use Rattle.std.proofs.Common.{◌∙◌, ◌∷◌, ◌++◌, [], ap, refl, arith}
use Rattle.std.proofs.lemmas.Option.{slice_get-get_or}
use Rattle.std.proofs.Math.ListN.{get_or}
use Rattle.replay.specs.declared.line.Line.{Line}
use Rattle.replay.proofs.Spans.{counts_more, named_more, takes_all, takes_first, takes_more}
use Rattle.replay.proofs.order.take_turns.Goals as goal

pub order-init : goal.order-init
order-init g c = record {
  takes = takes_first c.args.world.now c.args.order.now c.args.found.now.items;
  room = c.requires;
  threads = refl;
  named = λ i t lt e. absurd (omega (arith, lt));
}

pub order-preserved : goal.order-preserved
order-preserved g c =
    let t = get_or c.args.order.now c.order.at 0 in
    let here = slice_get-get_or c.args.order.now c.order.at 0 (let lt = c.order-test.true in omega (arith, lt)) in
    let added = c.in-Ok.ensures.items ∙ ap (λ (l : Line). c.order.found.items ++ l ∷ []) c.line.ensures in
    let m = c.in_ok-made.ensures.made in
    record {
      takes = takes_more c.args.world.now c.order.world c.take_turn.new.world c.args.order.now c.order.at t c.in_ok-made.made c.args.found.now.items c.order.found.items _ c.order.invariant.takes here c.in_ok-made.ensures.turn m.1 added;
      room = let e = counts_more c.order.found.items _ (t, c.in_ok-made.made) added in let r = c.order.invariant.room in let le = m.0 in omega arith;
      threads = c.take_turn.ensures.threads ∙ c.order.invariant.threads;
      named = named_more c.args.order.now c.order.at t c.args.world.now.threads here (let f = c.if-t-threads.false in let e = c.threads-threads.ensures.threads in omega arith) c.order.invariant.named;
    }

pub returns-clause-turns : goal.returns-clause-turns
returns-clause-turns g c = takes_all c.args.world.now c.order.world c.args.order.now c.order.at c.args.found.now.items c.order.found.items c.order.invariant.takes (let f = c.order-test.false in omega arith)

pub returns-clause-few : goal.returns-clause-few
returns-clause-few g c = let r = c.order.invariant.room in omega arith

pub returns-clause-named : goal.returns-clause-named
returns-clause-named g c = λ i d lt. c.order.invariant.named i (get_or c.args.order.now i d) (let f = c.order-test.false in omega (arith, lt)) (slice_get-get_or c.args.order.now i d lt)
