use Rattle.std.proofs.Common.{◌∙◌, ◌++◌, sym, ap}
use Rattle.picture.specs.inner.Views.{drawn_of}
use Rattle.picture.proofs.replayed.draw_next.Goals as goal

pub returns-in-Ok-clause-drawn : goal.returns-in-Ok-clause-drawn
returns-in-Ok-clause-drawn g c = (
  c.in-Ok.ensures.glyphs ∙ ap (λ steps. steps ++ drawn_of c.args.from c.in_ok-step.step) c.requires.0 ∙ sym c.in_ok-step.ensures.drawn,
  c.in-Ok.ensures.arrows,
)
