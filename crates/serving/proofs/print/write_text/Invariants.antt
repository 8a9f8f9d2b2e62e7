use Rattle.std.proofs.Common.{◌≤◌, length, take}
use Rattle.std.specs.Io.KnownBytes.{Appends}
use Rattle.serving.proofs.print.write_text.Given as goal

-- this many bytes of the text are written
abbrev pub invariant-turns : goal.invariant-turns
invariant-turns g l = record {
  within : l.written ≤ length l.text;
  appended : Appends (g.W.Write.contents l.initial.out) (g.W.Write.contents l.out) (take l.written l.text);
}
