use Rattle.std.proofs.Common.{◌∷◌, [], ap, length, length-append, subst, sym, arith}
use Rattle.world.specs.inner.Following.{AreFirstFrom}
use Rattle.world.proofs.Opening.{first_more}
use Rattle.world.proofs.world.first_threads.Goals as goal

pub numbers-preserved : goal.numbers-preserved
numbers-preserved g c =
    let e = c.in_ok-push.ensures.items in
    let i = c.numbers.invariant.count in
    record {
      count = (let l = length-append c.numbers.threads.items (c.in_ok-new.field-0 ∷ []) in let n = ap length e in omega arith);
      first = subst (AreFirstFrom c.args.code.now 0) (sym e) (first_more c.args.code.now 0 c.numbers.threads.items c.in_ok-new.field-0 c.numbers.number c.numbers.invariant.first (omega arith) c.in_ok-new.ensures.thread c.in_ok-new.ensures.of c.in_ok-new.ensures.accesses);
    }
