use Rattle.std.specs.Prelude.{codes, map}
use Rattle.picture.specs.Boxes.{passage_title}
use Rattle.picture.specs.Figures.{figures_text}
use Rattle.picture.specs.inner.Views.{figure_of}
use Rattle.picture.proofs.Drawn.{in_five}
use Rattle.picture.proofs.boxes.put_titled.Goals as goal

pub returns : goal.returns
returns g c =
    let figures = rw c.as_slice.ensures.value at c.in_ok-put_figures.ensures in
    in_five c.args.to.now.items (codes "<g><title>") (passage_title c.args.text.now c.args.drawn.now.passage) (codes "</title>\n") (figures_text (map figure_of c.args.drawn.now.figures.items)) (codes "</g>\n") _ _ _ _ _ c.in_ok-extend_from_slice.ensures.items c.in_ok-put_passage.ensures c.in_ok-extend_from_slice-2.ensures.items figures c.in_ok-extend_from_slice-3.ensures.items
