use Rattle.picture.proofs.Drawn.{more_arrows}
use Rattle.picture.proofs.svg.add_glyph.Goals as goal

pub returns-in_ok-push-clause-arrows : goal.returns-in_ok-push-clause-arrows
returns-in_ok-push-clause-arrows g c = more_arrows c.args.glyphs.now.items c.push.new.self.items c.in_ok-glyph.glyph _ _ c.requires (rw c.as_slice.ensures.value at c.in_ok-add_arrow.ensures) c.in_ok-push.ensures.items
