use Rattle.std.proofs.Common.{◌≡◌, ◌++◌, drop, string_bytes}
use Rattle.bytecode.specs.Listing.{texts_text}
use Rattle.bytecode.proofs.list.push_texts.Given as goal

abbrev pub invariant-each : goal.invariant-each
invariant-each g l = string_bytes l.text ++ texts_text l.number (drop l.number l.texts) ≡ string_bytes l.initial.text ++ texts_text 0 l.texts
