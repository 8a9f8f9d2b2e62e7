use Rattle.std.proofs.Common.{◌≡◌, ◌++◌, drop}
use Rattle.std.specs.Prelude.{map}
use Rattle.picture.specs.Figures.{figures_text}
use Rattle.picture.specs.inner.Views.{figure_of}
use Rattle.picture.proofs.figure.put_figures.Given as goal

-- what is written and what is to come make up the whole
abbrev pub invariant-figures : goal.invariant-figures
invariant-figures g l =
    l.to.items ++ figures_text (map figure_of (drop l.figure-index l.figures))
    ≡ l.initial.to.items ++ figures_text (map figure_of l.figures)
