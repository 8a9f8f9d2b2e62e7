use Rattle.std.proofs.Common.{◌≡◌, ◌-◌, suc, length, arith}
use Rattle.nesting.proofs.attempt.Attempt.cancel.Goals as goal

pub returns-clause-back : goal.returns-clause-back
returns-clause-back g c =
    let count = c.depth-innermost.ensures in
    let begun = c.requires in
    let none : length c.args.self.now.begins.inner - suc (c.depth-innermost.result - 1) ≡ 0 = omega arith in
    rw none at c.back_to.ensures.back
