use Rattle.std.proofs.Common.{◌-◌, arith}
use Rattle.nesting.proofs.Cancelling.{inner_cancelled, outermost_cancelled}
use Rattle.nesting.proofs.attempt.Attempt.cancel_outer.Goals as goal

pub returns-then-levels-depth-clause-back : goal.returns-then-levels-depth-clause-back
returns-then-levels-depth-clause-back g c =
    let count = c.depth-depth.ensures in
    let several = c.requires.several in
    let within = c.if-levels-depth.true in
    inner_cancelled c.args.self.now c.back_to.new.self _ (c.args.levels - 1) c.back_to.ensures.back (omega arith) c.back_to.ensures.saved

pub returns-else-levels-depth-clause-back : goal.returns-else-levels-depth-clause-back
returns-else-levels-depth-clause-back g c =
    let count = c.depth-depth.ensures in
    let past = c.if-levels-depth.false in
    outermost_cancelled c.args.self.now c.abort.new.self (c.args.levels - 1) c.args.self.now.begins.inner (omega arith) c.abort.ensures.back c.abort.ensures.writes
