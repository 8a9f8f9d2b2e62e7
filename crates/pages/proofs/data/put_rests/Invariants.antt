use Rattle.std.proofs.Common.{◌≡◌, ◌++◌, drop, map}
use Rattle.std.specs.Prelude.{flat_map}
use Rattle.pages.specs.Content.{rest_data}
use Rattle.pages.specs.Data.{rest_object}
use Rattle.pages.proofs.data.put_rests.Given as goal

-- what is written and what is to come make up the whole
abbrev pub invariant-rests : goal.invariant-rests
invariant-rests g l =
    (l.to.before ≡ l.initial.to.before) × (l.to.tokens ++ flat_map rest_object (map rest_data (drop l.rest-index l.rests))
    ≡ l.initial.to.tokens ++ flat_map rest_object (map rest_data l.rests))
