use Rattle.std.proofs.Common.{◌≡◌, ◌++◌, string_bytes}
use Rattle.std.specs.Str.Iter.{chars_rest}
use Rattle.lex.specs.Tokens.{string_value}
use Rattle.lex.proofs.steps.Escapes.{pending}
use Rattle.lex.proofs.escape.unescape.Given as goal

-- what was written, with what the rest stands for, is what the whole stands for
abbrev pub invariant-characters : goal.invariant-characters
invariant-characters g l = string_bytes l.text ++ pending l.is_escaped (chars_rest l.c-iterator) ≡ string_value l.written
