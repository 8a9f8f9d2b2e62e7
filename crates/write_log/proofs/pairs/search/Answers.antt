use Rattle.std.proofs.Common.{◌+◌, ◌-◌, ◌/◌, length, arith}
use Rattle.write_log.proofs.Order.{halve, below_at, above_at, below_few, above_few, starts}
use Rattle.write_log.proofs.pairs.search.Goals as goal

pub loop-from-preserved-in-Less : goal.loop-from-preserved-in-Less
loop-from-preserved-in-Less g c =
    let from = c.loop-from.from in
    let to = c.loop-from.to in
    let middle = from + (to - from) / 2 in
    record {
      rises = omega arith;
      within = c.loop-from.invariant.within;
      below = below_at c.args.order.now middle c.args.cell c.requires.rising (omega arith) c.in-Less.ensures.order;
      above = c.loop-from.invariant.above;
      looks = λ digits lt.
          let was = c.loop-from.invariant.looks digits lt in
          let now = halve (to - from) (to - (middle + 1)) was.0 (omega arith) (omega arith) was.1 in
          (now.0, now.1, omega (arith, was.2, now.2, c.in-Less.ensures.count));
    }

pub loop-from-preserved : goal.loop-from-preserved
loop-from-preserved g c =
    let from = c.loop-from.from in
    let to = c.loop-from.to in
    let middle = from + (to - from) / 2 in
    record {
      rises = omega arith;
      within = omega arith;
      below = c.loop-from.invariant.below;
      above = above_at c.args.order.now middle c.args.cell c.requires.rising (omega arith) c.in-Greater.ensures.order;
      looks = λ digits lt.
          let was = c.loop-from.invariant.looks digits lt in
          let now = halve (to - from) (middle - from) was.0 (omega arith) (omega arith) was.1 in
          (now.0, now.1, omega (arith, was.2, now.2, c.in-Greater.ensures.count));
    }

pub loop-from-init : goal.loop-from-init
loop-from-init g c =
    let order = c.args.order.now in
    let least = c.args.least in
    let above = c.args.above in
    let a = c.args.cell in
    record {
      rises = (let s = starts order least above a c.requires.rising c.requires.between in omega (arith, s));
      within = omega arith;
      below = λ j lt. below_few order least above a j c.requires.rising c.requires.between (omega arith);
      above = λ j le lt. above_few order least above a j c.requires.rising c.requires.between (omega arith) lt;
      looks = λ digits lt. (digits, omega arith, omega arith);
    }
