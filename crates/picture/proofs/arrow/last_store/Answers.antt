use Rattle.std.specs.Prelude.{Option, Some, if◌then◌else◌}
use Rattle.picture.specs.declared.arrow.ArrowEnd.{ArrowEnd}
use Rattle.picture.specs.Arrows.{end_at, is_store_to}
use Rattle.picture.specs.Glyphs.{Glyph}
use Rattle.picture.specs.inner.Views.{glyph_of}
use Rattle.picture.proofs.Drawn.{next_fold}
use Rattle.picture.proofs.arrow.last_store.Goals as goal

pub glyphs-preserved : goal.glyphs-preserved
glyphs-preserved g c = next_fold (λ (found : Option ArrowEnd) (m : Glyph). if is_store_to c.args.cell m.step.access then Some (end_at m) else found) glyph_of c.args.glyphs.now c.glyphs.glyph-index c.glyph-item.result c.glyphs.found _ _ c.glyph-item.is c.glyphs-test.true c.glyphs.invariant c.later_store-found.ensures
