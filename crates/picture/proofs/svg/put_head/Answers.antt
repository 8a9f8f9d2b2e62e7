use Rattle.std.specs.Prelude.{codes}
use Rattle.picture.specs.declared.legend.TheConstants.{STYLE}
use Rattle.picture.specs.Pictures.{size_text, told_text}
use Rattle.picture.proofs.Drawn.{in_five}
use Rattle.picture.proofs.svg.put_head.Goals as goal

pub returns : goal.returns
returns g c =
    let told = rw (c.as_slice.ensures.value, c.as_slice-2.ensures.value) at c.in_ok-put_told.ensures in
    in_five c.args.to.now.items (codes "<svg xmlns=\"http://www.w3.org/2000/svg\"") (size_text c.args.page.now.width c.args.page.now.height) (codes " role=\"img\" aria-labelledby=\"t d\">\n") (told_text c.args.page.now.title.items c.args.page.now.description.items) STYLE.now _ _ _ _ _ c.in_ok-extend_from_slice.ensures.items c.in_ok-put_size.ensures c.in_ok-extend_from_slice-2.ensures.items told c.in_ok-extend_from_slice-3.ensures.items
