use Rattle.std.proofs.Common.{◌≡◌, ◌<◌, ◌^◌, take}
use Rattle.std.specs.Str.Parse.{digits_value}
use Rattle.replay.proofs.row.number.Given as goal

-- the number that the digits so far write
abbrev pub invariant-digits : goal.invariant-digits
invariant-digits l = record {
  small : l.value < 2 ^ 32;
  so_far : l.value ≡ digits_value 10 (take l.digit-index l.digits);
}
