-- The value that a number of 128 bits encodes, which two registers hold.
use Rattle.std.specs.Prelude.{◌^◌, ◌%◌, nat_lt, if◌then◌else◌}
use Rattle.syntax.specs.Tree.{Int, Unsigned, LongLong}
use Rattle.syntax.specs.declared.value.Value.{Value}
use Rattle.meaning.specs.declared.word.Word.{Word}

-- the value encoded in the bits: its word in the lower ones, and its type above
unfoldable pub value_of : Word → Value
value_of w = record {
  ty = if nat_lt w.bits (2 ^ 64) then Int else (if nat_lt w.bits (2 ^ 65) then Unsigned else LongLong);
  word = w.bits % 2 ^ 64;
}
