use Rattle.std.proofs.Common.{◌≡◌, map, string_bytes, take}
use Rattle.command.proofs.tests.copied.Given as goal

-- the names so far are copied
abbrev pub invariant-names : goal.invariant-names
invariant-names l = map string_bytes l.files.items ≡ map (λ w. w.now) (take l.name-index l.names)
