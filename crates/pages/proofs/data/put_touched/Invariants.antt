use Rattle.std.proofs.Common.{◌≡◌, ◌++◌, drop}
use Rattle.std.specs.Prelude.{flat_map}
use Rattle.pages.specs.Data.{touched_list}
use Rattle.pages.proofs.data.put_touched.Given as goal

-- what is written and what is to come make up the whole
abbrev pub invariant-touched : goal.invariant-touched
invariant-touched g l =
    (l.to.before ≡ l.initial.to.before) × (l.to.tokens ++ flat_map touched_list (drop l.one-index l.touched)
    ≡ l.initial.to.tokens ++ flat_map touched_list l.touched)
