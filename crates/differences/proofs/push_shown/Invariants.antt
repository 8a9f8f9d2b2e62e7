use Rattle.std.proofs.Common.{◌≡◌, ◌++◌, map, take}
use Rattle.differences.specs.Texts.{shown_byte}
use Rattle.differences.proofs.push_shown.Given as goal

-- the bytes before the next one are shown
abbrev pub invariant-bytes : goal.invariant-bytes
invariant-bytes g l = l.text.items ≡ l.initial.text.items ++ map shown_byte (take l.byte-index l.bytes)
