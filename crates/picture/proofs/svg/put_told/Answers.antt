use Rattle.std.specs.Prelude.{codes}
use Rattle.picture.specs.Figures.{xml}
use Rattle.picture.proofs.Drawn.{in_five}
use Rattle.picture.proofs.svg.put_told.Goals as goal

pub returns : goal.returns
returns g c = in_five c.args.to.now.items (codes "<title id=\"t\">") (xml c.args.title.now) (codes "</title>\n<desc id=\"d\">") (xml c.args.description.now) (codes "</desc>\n") _ _ _ _ _ c.in_ok-extend_from_slice.ensures.items c.in_ok-put_words.ensures c.in_ok-extend_from_slice-2.ensures.items c.in_ok-put_words-2.ensures c.in_ok-extend_from_slice-3.ensures.items
