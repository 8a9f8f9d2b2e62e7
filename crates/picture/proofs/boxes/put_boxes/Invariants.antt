use Rattle.std.proofs.Common.{◌≡◌, ◌++◌, drop}
use Rattle.std.specs.Prelude.{flat_map, map}
use Rattle.picture.specs.Boxes.{box_text}
use Rattle.picture.specs.inner.Views.{box_of}
use Rattle.picture.proofs.boxes.put_boxes.Given as goal

-- what is written and what is to come make up the whole
abbrev pub invariant-boxes : goal.invariant-boxes
invariant-boxes g l =
    l.to.items ++ flat_map (box_text l.text) (map box_of (drop l.drawn-index l.boxes))
    ≡ l.initial.to.items ++ flat_map (box_text l.text) (map box_of l.boxes)
