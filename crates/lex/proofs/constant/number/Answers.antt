use Rattle.std.proofs.Common.{◌≡◌, ◌≤◌, ◌+◌, ◌*◌, drop, slice_index, ap, arith}
use Rattle.std.proofs.lemmas.List.{drop_more}
use Rattle.std.specs.Char.{digit_value}
use Rattle.lex.specs.Pieces.{value_from, radix}
use Rattle.lex.proofs.pieces.Constants.{grows, radix_some}
use Rattle.lex.proofs.constant.number.Goals as goal

pub returns-then-n-ge9223372036854775808 : goal.returns-then-n-ge9223372036854775808
returns-then-n-ge9223372036854775808 c =
    let r = radix c.args.base in
    let i = c.digits.digit-index in
    let next = c.digits.n * r + digit_value (slice_index c.args.digits.now i) in
    let here : next ≡ c.digits.n * c.from.result + c.from-in-digits.result = cc (c.from.ensures, c.from-in-digits.ensures, c.radix.ensures, c.digit_value.ensures.value) in
    let step : value_from r c.digits.n (drop i c.args.digits.now) ≡ value_from r next (drop (i + 1) c.args.digits.now) = ap (value_from r c.digits.n) (drop_more c.args.digits.now i 0 c.digits-test.true) in
    let more : next ≤ value_from r next (drop (i + 1) c.args.digits.now) = grows r next (drop (i + 1) c.args.digits.now) (radix_some c.args.base) in
    let whole = c.digits.invariant.whole in
    let large = c.if-n-ge9223372036854775808.true in
    omega arith
