-- The Rust types as plain ones.
use Rattle.std.specs.Prelude.{◌≡◌, ℕ, List, [], ◌∷◌, map, if◌then◌else◌}
use Rattle.picture.specs.Arrows.{arrows_among}
use Rattle.picture.specs.Boxes as boxes
use Rattle.picture.specs.Figures as plain
use Rattle.picture.specs.Figures.{xml}
use Rattle.picture.specs.Glyphs as glyphs
use Rattle.picture.specs.Glyphs.{DrawnStep, is_drawn}
use Rattle.picture.specs.declared.boxes.TransactionBox.{TransactionBox}
use Rattle.picture.specs.declared.figure.Figure.{Figure}
use Rattle.picture.specs.declared.figure.Figure.TheVariants.{Words, Rectangle, Line, Symbol}
use Rattle.picture.specs.declared.glyph.Glyph.{Glyph}
use Rattle.picture.specs.declared.step.Step.{Step}
use Rattle.picture.specs.declared.svg.Drawing.{Drawing}

module _ {A : Type 0} where
  abbrev pub figure_of : Figure A → plain.Figure
  figure_of (Words x y class words) = plain.Words x y class.now words.items
  figure_of (Rectangle x y width height class) = plain.Rectangle x y width height class.now
  figure_of (Line points class) = plain.Line points.items class.now
  figure_of (Symbol name x y) = plain.Symbol name.now x y

  abbrev pub box_of : TransactionBox A → boxes.TransactionBox
  box_of b = record { passage = b.passage; figures = map figure_of b.figures.items }

  abbrev pub glyph_of : Glyph A → glyphs.Glyph
  glyph_of g = record {
    step = record {
      accesses = g.accesses;
      thread = g.thread;
      access = g.access;
      happening = g.event;
      title = g.title.items;
    };
    figures = map figure_of g.figures.items;
  }

  -- a step as it is drawn, and, if it is drawn, alone
  abbrev pub step_of : Step A → DrawnStep
  step_of s = record {
    accesses = s.accesses;
    thread = s.thread;
    access = s.access;
    happening = s.event;
    title = xml s.line.items;
  }

  abbrev pub drawn_of : (from : ℕ) → Step A → List DrawnStep
  drawn_of from s = if is_drawn from s.accesses s.access s.event s.action then step_of s ∷ [] else []

  -- the glyphs of a drawing are those of these steps, and its arrows are those among these glyphs
  abbrev pub HasDrawn : Drawing A → List DrawnStep → Type 0
  HasDrawn d steps =
      (map (λ g. (glyph_of g).step) d.glyphs.items ≡ steps)
      × (map (λ a. (a.store, a.load)) d.arrows.items ≡ arrows_among (map glyph_of d.glyphs.items))
