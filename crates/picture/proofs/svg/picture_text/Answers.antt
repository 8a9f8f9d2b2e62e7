use Rattle.picture.proofs.Drawn.{is_picture}
use Rattle.picture.proofs.svg.picture_text.Goals as goal

pub returns : goal.returns
returns g c = is_picture c.args.text.now c.args.page.now.width c.args.page.now.height c.args.page.now.title.items c.args.page.now.description.items _ _ _ c.args.arrows.now c.args.glyphs.now _ _ _ _ _ _ _ _ c.requires c.new-svg.ensures.items c.in_ok-put_head.ensures c.in_ok-put_figures.ensures c.in_ok-put_boxes.ensures c.in_ok-put_arrows.ensures c.in_ok-put_figures-2.ensures c.in_ok-put_glyphs.ensures c.in_ok-extend_from_slice.ensures.items
