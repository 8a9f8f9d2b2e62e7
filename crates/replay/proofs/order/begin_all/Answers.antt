use Rattle.std.proofs.Common.{◌≡◌, ◌+◌, ◌∙◌, List, ◌∷◌, ◌++◌, [], ap, refl, sym, subst, arith}
use Rattle.replay.specs.declared.line.Line.{Line}
use Rattle.replay.specs.Schedules.{counts}
use Rattle.replay.specs.declared.line.TheConstants.{MOST_STEPS}
use Rattle.replay.proofs.Spans.{Begins, begins_all, begins_first, begins_more, counts_more}
use Rattle.replay.proofs.order.begin_all.Goals as goal

pub threads-init : goal.threads-init
threads-init g c = record {
  begins = begins_first c.args.world.now c.args.world.now.threads c.args.found.now.items c.requires;
  room = subst (λ (ls : List Line). counts ls + MOST_STEPS ≡ MOST_STEPS) (sym c.requires) (omega arith);
  threads = refl;
}

pub threads-preserved : goal.threads-preserved
threads-preserved g c =
    let added = c.in-Ok.ensures.items ∙ ap (λ (l : Line). c.threads.found.items ++ l ∷ []) c.line.ensures in
    let m = c.in_ok-made.ensures.made in
    record {
      begins = begins_more c.args.world.now c.threads.world c.come_to_rest.new.world c.threads.t c.in_ok-made.made c.args.world.now.threads c.threads.found.items _ c.threads.invariant.begins (let lt = c.threads-test.true in let e = c.threads-t-end.ensures.threads in omega arith) c.in_ok-made.ensures.rests m.1 added;
      room = let e = counts_more c.threads.found.items _ (c.threads.t, c.in_ok-made.made) added in let r = c.threads.invariant.room in let le = m.0 in omega arith;
      threads = c.come_to_rest.ensures.threads ∙ c.threads.invariant.threads;
    }

pub returns-clause-begun : goal.returns-clause-begun
returns-clause-begun g c = begins_all c.args.world.now c.threads.world c.args.world.now.threads c.threads.found.items (subst (λ n. Begins c.args.world.now c.threads.world n c.args.world.now.threads c.threads.found.items) (let f = c.threads-test.false in omega arith) c.threads.invariant.begins)
