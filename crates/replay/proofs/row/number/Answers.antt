use Rattle.std.proofs.Common.{◌+◌, get_or, arith}
use Rattle.std.proofs.lemmas.Int.Digits.{digits_value_more}
use Rattle.std.proofs.lemmas.Str.{digit_value_digit}
use Rattle.std.proofs.lemmas.Str.Parse.{digit_at, digits_value-take-le}
use Rattle.replay.proofs.row.number.Goals as goal

pub overflow_sub-digit : goal.overflow_sub-digit
overflow_sub-digit c = let r = digit_at c.args.digits.now c.digits.digit-index c.requires c.digits-test.true in omega (arith, r.0)

pub returns-then-next-from : goal.returns-then-next-from
returns-then-next-from c = λ n w.
    let r = digit_at c.args.digits.now c.digits.digit-index c.requires c.digits-test.true in
    let v = digit_value_digit (get_or c.args.digits.now c.digits.digit-index 0) r in
    let m = digits_value_more 10 c.args.digits.now c.digits.digit-index c.digits-test.true in
    let le = digits_value-take-le 10 c.args.digits.now (c.digits.digit-index + 1) (omega arith) in
    let e0 = c.from.ensures in
    let e1 = c.from-in-digits.ensures in
    let e2 = c.from-in-digits-2.ensures in
    let e3 = c.digits.invariant.so_far in
    let e4 = c.if-next-from.true in
    let is = w.1 in
    let few = w.2 in
    absurd (omega (arith, r.0))

pub digits-preserved : goal.digits-preserved
digits-preserved c =
    let r = digit_at c.args.digits.now c.digits.digit-index c.requires c.digits-test.true in
    let v = digit_value_digit (get_or c.args.digits.now c.digits.digit-index 0) r in
    let m = digits_value_more 10 c.args.digits.now c.digits.digit-index c.digits-test.true in
    let e0 = c.from.ensures in
    let e1 = c.from-in-digits.ensures in
    let e2 = c.from-in-digits-2.ensures in
    let e3 = c.digits.invariant.so_far in
    let e4 = c.if-next-from.false in
    record { small = omega (arith, r.0); so_far = omega (arith, r.0) }
