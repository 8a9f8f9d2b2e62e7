use Rattle.std.proofs.Common.{string_bytes}
use Rattle.std.specs.Str.Iter.{chars_rest}
use Rattle.lex.specs.Tokens.{string_value}
use Rattle.lex.proofs.steps.Escapes.{plain_turn, escaped_turn}
use Rattle.lex.proofs.escape.unescape.Goals as goal

pub characters-preserved-then-is_escaped : goal.characters-preserved-then-is_escaped
characters-preserved-then-is_escaped g c =
    escaped_turn (chars_rest c.characters.c-iterator) (chars_rest c.next.new.self) (string_bytes c.characters.text) (string_bytes c.push.new.self) (string_value c.args.written.now) c.in-Some.c c.stands_for.result c.characters.is_escaped c.if-is_escaped.true c.in-Some.ensures.steps.0 c.stands_for.ensures c.in_ok-push.ensures.bytes c.characters.invariant

pub characters-preserved : goal.characters-preserved
characters-preserved g c =
    plain_turn (chars_rest c.characters.c-iterator) (chars_rest c.next.new.self) (string_bytes c.characters.text) (string_bytes c.push-else-c-eq92.new.self) (string_value c.args.written.now) c.in-Some.c c.characters.is_escaped c.if-is_escaped.false c.if-c-eq92.false c.in-Some.ensures.steps.0 c.in_ok-push-2.ensures.bytes c.characters.invariant
