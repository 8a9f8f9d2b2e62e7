use Rattle.std.proofs.Common.{◌≡◌, take}
use Rattle.std.specs.Prelude.{flat_map, string_bytes}
use Rattle.std.specs.List.{AllByRecursion}
use Rattle.replay.specs.inner.Written.{IsInBounds, line_text}
use Rattle.replay.proofs.write.write_schedule.Given as goal

-- the lines so far are written, and their numbers are in bounds
abbrev pub invariant-lines : goal.invariant-lines
invariant-lines g l = record {
  written : string_bytes l.text ≡ flat_map line_text (take l.line-index l.lines);
  bounds : AllByRecursion IsInBounds (take l.line-index l.lines);
}
