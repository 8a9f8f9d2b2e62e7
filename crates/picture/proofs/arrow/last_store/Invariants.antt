use Rattle.std.proofs.Common.{◌≡◌, drop}
use Rattle.std.specs.Prelude.{map, fold, Some, if◌then◌else◌}
use Rattle.picture.specs.Arrows.{end_at, is_store_to, last_store}
use Rattle.picture.specs.Glyphs.{Glyph}
use Rattle.picture.specs.inner.Views.{glyph_of}
use Rattle.picture.proofs.arrow.last_store.Given as goal

-- what is found so far leads to what all glyphs give
abbrev pub invariant-glyphs : goal.invariant-glyphs
invariant-glyphs g l =
    fold (λ found (m : Glyph). if is_store_to l.cell m.step.access then Some (end_at m) else found) l.found (map glyph_of (drop l.glyph-index l.glyphs))
    ≡ last_store l.cell (map glyph_of l.glyphs)
