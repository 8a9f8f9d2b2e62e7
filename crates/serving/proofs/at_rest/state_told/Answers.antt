use Rattle.std.proofs.Common.{arith}
use Rattle.serving.proofs.AtRest.{all_of_state, told_more}
use Rattle.serving.proofs.at_rest.state_told.Goals as goal

pub threads-preserved : goal.threads-preserved
threads-preserved g c = told_more _ c.threads.t _ c.threads.told.items c.push.new.self.items _ c.thread.ensures c.threads.invariant c.in_ok-thread_told.ensures c.in_ok-push.ensures.items

pub returns : goal.returns
returns g c =
    all_of_state c.requires.walk.0 c.args.walk.now c.args.state c.threads.t _ c.requires.walk.1 c.requires.there (let last = c.threads-test.false in let count = c.threads-t-end.ensures in omega (arith, last, count)) c.threads.invariant
