use Rattle.std.proofs.Common.{◌≡◌, drop, map}
use Rattle.std.specs.Prelude.{string_bytes}
use Rattle.command.specs.Asked.{has_twice}
use Rattle.command.proofs.definitions.twice.Given as goal

-- the names so far are there once
abbrev pub invariant-definitions : goal.invariant-definitions
invariant-definitions l = has_twice (map (λ d. string_bytes d.name) (drop l.at l.definitions)) ≡ has_twice (map (λ d. string_bytes d.name) l.definitions)
