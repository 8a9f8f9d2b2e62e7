use Rattle.std.proofs.Common.{◌≡◌, drop, map}
use Rattle.std.specs.Prelude.{string_bytes}
use Rattle.command.specs.Asked.{is_among}
use Rattle.command.proofs.definitions.is_among.Given as goal

-- the definitions so far are of other names
abbrev pub invariant-definitions : goal.invariant-definitions
invariant-definitions l = is_among l.name (map (λ d. string_bytes d.name) (drop l.definition-index l.definitions)) ≡ is_among l.name (map (λ d. string_bytes d.name) l.definitions)
