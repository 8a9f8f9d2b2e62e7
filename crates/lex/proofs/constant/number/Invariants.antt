use Rattle.std.proofs.Common.{◌≡◌, ◌<◌, ◌^◌, drop}
use Rattle.lex.specs.Pieces.{value_from, radix}
use Rattle.lex.proofs.constant.number.Given as goal

-- the number so far with the digits that are left is the whole number
abbrev pub invariant-digits : goal.invariant-digits
invariant-digits l = record {
  small : l.n < 2 ^ 63;
  whole : value_from (radix l.base) l.n (drop l.digit-index l.digits) ≡ value_from (radix l.base) 0 l.digits;
}
