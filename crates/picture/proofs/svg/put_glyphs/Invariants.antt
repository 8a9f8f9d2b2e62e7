use Rattle.std.proofs.Common.{◌≡◌, ◌++◌, drop}
use Rattle.std.specs.Prelude.{flat_map, map}
use Rattle.picture.specs.Glyphs.{glyph_text}
use Rattle.picture.specs.inner.Views.{glyph_of}
use Rattle.picture.proofs.svg.put_glyphs.Given as goal

-- what is written and what is to come make up the whole
abbrev pub invariant-glyphs : goal.invariant-glyphs
invariant-glyphs g l =
    l.to.items ++ flat_map glyph_text (map glyph_of (drop l.glyph-index l.glyphs))
    ≡ l.initial.to.items ++ flat_map glyph_text (map glyph_of l.glyphs)
