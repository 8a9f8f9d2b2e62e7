-- The text of a picture: all its elements.
use Rattle.std.specs.Prelude.{ℕ, ◌≡◌, List, ◌++◌, codes, decimal, flat_map, map}
use Rattle.picture.specs.declared.arrow.Arrow.{Arrow}
use Rattle.picture.specs.declared.legend.TheConstants.{STYLE}
use Rattle.picture.specs.Arrows.{arrow_text, arrows_among}
use Rattle.picture.specs.Boxes.{TransactionBox, box_text}
use Rattle.picture.specs.Figures.{Figure, figures_text, measure, xml}
use Rattle.picture.specs.Glyphs.{DrawnStep, Glyph, glyph_text}

abbrev pub view_box : (width height : ℕ) → List ℕ
view_box width height = codes " viewBox=\"0 0 " ++ decimal width ++ codes " " ++ decimal height ++ codes "\""

abbrev pub size_text : (width height : ℕ) → List ℕ
size_text width height = measure (codes "width") width ++ measure (codes "height") height ++ view_box width height

-- a description of a picture, in words for people
abbrev pub told_text : (title description : List ℕ) → List ℕ
told_text title description =
    codes "<title id=\"t\">" ++ xml title ++ codes "</title>\n<desc id=\"d\">" ++ xml description
    ++ codes "</desc>\n"

-- the head of a picture, with the style of its classes and symbols
abbrev pub head_text : (width height : ℕ) → (title description : List ℕ) → List ℕ
head_text width height title description =
    codes "<svg xmlns=\"http://www.w3.org/2000/svg\"" ++ size_text width height
    ++ codes " role=\"img\" aria-labelledby=\"t d\">\n" ++ told_text title description ++ STYLE.now

-- A picture of steps of a source: a head, and then figures, boxes, arrows, figures again, and glyphs, of which later
-- ones cover earlier ones. Each step has a glyph, in their order; and each abort has an arrow, from the glyph of the
-- last store to the word that had changed to its own. A box is titled by the source's text.
pub record IsPicture (source : List ℕ) (steps : List DrawnStep) (svg : List ℕ) : Type 0 where
  pub width : ℕ
  pub height : ℕ
  pub title : List ℕ
  pub description : List ℕ
  pub below : List Figure
  pub boxes : List TransactionBox
  pub arrows : List Arrow
  pub between : List Figure
  pub glyphs : List Glyph
  pub of_steps : map (λ g. g.step) glyphs ≡ steps
  pub of_drops : map (λ a. (a.store, a.load)) arrows ≡ arrows_among glyphs
  pub text : svg ≡ head_text width height title description ++ figures_text below
      ++ flat_map (box_text source) boxes ++ flat_map arrow_text arrows ++ figures_text between
      ++ flat_map glyph_text glyphs ++ codes "</svg>\n"
