use Rattle.std.proofs.Common.{◌≡◌, ◌++◌, drop}
use Rattle.std.specs.Prelude.{flat_map}
use Rattle.picture.specs.Arrows.{arrow_text}
use Rattle.picture.proofs.svg.put_arrows.Given as goal

-- what is written and what is to come make up the whole
abbrev pub invariant-arrows : goal.invariant-arrows
invariant-arrows g l =
    l.to.items ++ flat_map arrow_text (drop l.arrow-index l.arrows)
    ≡ l.initial.to.items ++ flat_map arrow_text l.arrows
