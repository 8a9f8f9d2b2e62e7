use Rattle.std.proofs.Common.{string_bytes}
use Rattle.std.specs.Str.Iter.{chars_rest}
use Rattle.bytecode.proofs.Escaping.{plain_turn}
use Rattle.bytecode.proofs.list.push_escaped.Goals as goal

pub each-preserved : goal.each-preserved
each-preserved g c = plain_turn (chars_rest c.each.c-iterator) (chars_rest c.next.new.self) (string_bytes c.each.text) (string_bytes c.push.new.self) _ c.in-Some.c (search) (search) (search) (search) c.in-Some.ensures.steps.0 c.in_ok-push-in_default.ensures.bytes c.each.invariant
