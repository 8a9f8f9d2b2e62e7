use Rattle.std.proofs.Common.{◌≡◌, ◌++◌, string_bytes}
use Rattle.std.specs.Prelude.{flat_map}
use Rattle.std.specs.Str.Iter.{chars_rest}
use Rattle.bytecode.specs.Listing.{listing_escape}
use Rattle.bytecode.proofs.list.push_escaped.Given as goal

abbrev pub invariant-each : goal.invariant-each
invariant-each g l = string_bytes l.text ++ flat_map listing_escape (chars_rest l.c-iterator) ≡ string_bytes l.initial.text ++ flat_map listing_escape l.written
