-- One step of the loops that draw, a picture's arrows with one more glyph, and its steps with one more.
use Rattle.std.proofs.Common.{◌≡◌, ◌∙◌, ℕ, suc, ◌+◌, ◌<◌, List, [], ◌∷◌, ◌++◌, map, length, drop, get_or, ap, sym, refl, append_assoc, append-nil, add-one, drop-cons}
use Rattle.std.specs.Prelude.{Some, codes, flat_map, fold, option_to_list}
use Rattle.std.proofs.lemmas.List.{flat_map_more, map-append}
use Rattle.bytecode.specs.Code.{Code}
use Rattle.machine.specs.declared.event.StepShown.{StepShown}
use Rattle.world.specs.Simulations.{Simulation, accesses_of, further, shown_at}
use Rattle.replay.specs.Replays.{timeline_of}
use Rattle.replay.proofs.Showing.{next_shown}
use Rattle.picture.specs.declared.arrow.Arrow.{Arrow}
use Rattle.picture.specs.declared.arrow.ArrowEnd.{ArrowEnd}
use Rattle.picture.specs.declared.figure.Figure.{Figure}
use Rattle.picture.specs.declared.glyph.Glyph.{Glyph as Own}
use Rattle.picture.specs.Arrows.{arrow_text, arrow_to, arrows_among, arrows_behind}
use Rattle.picture.specs.Figures.{figures_text}
use Rattle.picture.specs.Glyphs.{DrawnStep, Glyph, glyph_text}
use Rattle.picture.specs.Replayed.{if_drawn}
use Rattle.picture.specs.Pictures.{IsPicture, head_text}
use Rattle.picture.specs.Boxes.{box_text}
use Rattle.picture.specs.declared.boxes.TransactionBox.{TransactionBox}
use Rattle.picture.specs.inner.Views.{box_of, figure_of, glyph_of}

then_put : {X : Type 0} (a p q b c : List X) → b ≡ a ++ p → c ≡ b ++ q → c ≡ a ++ (p ++ q)
then_put a p q b c was more = more ∙ ap (λ l. l ++ q) was ∙ append_assoc a p q

-- what is written in five parts
pub in_five : {X : Type 0} (a p q r s t b c d e f : List X) → b ≡ a ++ p → c ≡ b ++ q → d ≡ c ++ r → e ≡ d ++ s → f ≡ e ++ t → f ≡ a ++ (p ++ q ++ r ++ s ++ t)
in_five a p q r s t b c d e f first second third fourth fifth =
    let in_two = then_put a p q b c first second in
    let in_three = then_put a (p ++ q) r c d in_two third in
    let in_four = then_put a (p ++ q ++ r) s d e in_three fourth in
    then_put a (p ++ q ++ r ++ s) t e f in_four fifth

-- from an element on: the element, and what follows it
drop_here : {X : Type 0} (xs : List X) (i : ℕ) (x : X) → x ≡ get_or xs i x → i < length xs → drop i xs ≡ x ∷ drop (i + 1) xs
drop_here xs i x e h = rw (add-one, drop-cons xs i x) (ap (λ y. y ∷ drop (suc i) xs) (sym e))

-- what is made of one more element
pub next_made : {X Y : Type 0} (made : X → List Y) (xs : List X) (i : ℕ) (x : X) (before now whole : List Y) → x ≡ get_or xs i x → i < length xs → before ++ flat_map made (drop i xs) ≡ whole → now ≡ before ++ made x → now ++ flat_map made (drop (i + 1) xs) ≡ whole
next_made made xs i x before now whole e h was new =
    let split = drop_here xs i x e h in
    let at_here = rw split at was in
    rw (new, append_assoc before) at_here

-- what one more element leads to
pub next_fold : {X B C : Type 0} (f : B → C → B) (of : X → C) (xs : List X) (i : ℕ) (x : X) (found now whole : B) → x ≡ get_or xs i x → i < length xs → fold f found (map of (drop i xs)) ≡ whole → now ≡ f found (of x) → fold f now (map of (drop (i + 1) xs)) ≡ whole
next_fold f of xs i x found now whole e h was new =
    let at_here = rw (drop_here xs i x e h) at was in
    rw new at_here

-- the arrows with one more glyph
pub one_more : (before glyphs : List Glyph) (g : Glyph) → arrows_behind before (glyphs ++ g ∷ []) ≡ arrows_behind before glyphs ++ option_to_list (arrow_to (before ++ glyphs) g)
one_more before [] g = append-nil (option_to_list (arrow_to before g)) ∙ ap (λ glyphs. option_to_list (arrow_to glyphs g)) (sym (append-nil before))
one_more before (x ∷ glyphs) g =
    let rest = one_more (before ++ x ∷ []) glyphs g in
    ap (λ t. option_to_list (arrow_to before x) ++ t) (rw (append_assoc before (x ∷ []) glyphs) at rest) ∙ sym (append_assoc (option_to_list (arrow_to before x)) (arrows_behind (before ++ x ∷ []) glyphs) (option_to_list (arrow_to (before ++ x ∷ glyphs) g)))

-- one more glyph, with the arrow to it
pub more_arrows : {A : Type 0} (old new : List (Own A)) (g : Own A) (before now : List (ArrowEnd × ArrowEnd)) → before ≡ arrows_among (map glyph_of old) → now ≡ before ++ option_to_list (arrow_to (map glyph_of old) (glyph_of g)) → new ≡ old ++ g ∷ [] → now ≡ arrows_among (map glyph_of new)
more_arrows old new g before now was added pushed =
    let mapped : map glyph_of new ≡ map glyph_of old ++ glyph_of g ∷ [] = ap (map glyph_of) pushed ∙ map-append glyph_of old (g ∷ []) in
    added ∙ ap (λ t. t ++ option_to_list (arrow_to (map glyph_of old) (glyph_of g))) was ∙ sym (one_more [] (map glyph_of old) (glyph_of g)) ∙ ap arrows_among (sym mapped)

-- the steps that are drawn, with one more of the timeline
pub one_more_step : (from : ℕ) (code : Code) (s z : Simulation) (t n : ℕ) (x : StepShown) (drawn : List DrawnStep) → z ≡ further s (t ∷ []) → shown_at s t ≡ Some x → n ≡ accesses_of z → drawn ≡ if_drawn from code (n, t, x) → flat_map (if_drawn from code) (timeline_of z) ≡ flat_map (if_drawn from code) (timeline_of s) ++ drawn
one_more_step from code s z t n x drawn is at count made =
    ap (flat_map (if_drawn from code)) (sym (next_shown s z t n x is at count))
    ∙ sym (flat_map_more (if_drawn from code) [] (timeline_of s) (n, t, x))
    ∙ ap (λ l. flat_map (if_drawn from code) (timeline_of s) ++ l) (sym made)

steps_of : {A : Type 0} (glyphs : List (Own A)) → map (λ (g : Glyph). g.step) (map glyph_of glyphs) ≡ map (λ g. (glyph_of g).step) glyphs
steps_of [] = refl
steps_of (g ∷ glyphs) = ap (λ steps. (glyph_of g).step ∷ steps) (steps_of glyphs)

-- a picture's text by what is added to it in turn
pub is_picture : {A : Type 0} (source : List ℕ) (width height : ℕ) (title description : List ℕ) (below between : List (Figure A)) (boxes : List (TransactionBox A)) (arrows : List Arrow) (glyphs : List (Own A)) (empty headed drawn boxed pointed mixed whole svg : List ℕ) → map (λ (a : Arrow). (a.store, a.load)) arrows ≡ arrows_among (map glyph_of glyphs) → empty ≡ [] → headed ≡ empty ++ head_text width height title description → drawn ≡ headed ++ figures_text (map figure_of below) → boxed ≡ drawn ++ flat_map (box_text source) (map box_of boxes) → pointed ≡ boxed ++ flat_map arrow_text arrows → mixed ≡ pointed ++ figures_text (map figure_of between) → whole ≡ mixed ++ flat_map glyph_text (map glyph_of glyphs) → svg ≡ whole ++ codes "</svg>\n" → IsPicture source (map (λ g. (glyph_of g).step) glyphs) svg
is_picture source width height title description below between boxes arrows glyphs empty headed drawn boxed pointed mixed whole svg of_drops is_empty to_headed to_drawn to_boxed to_pointed to_mixed to_whole to_svg = record {
  width = width;
  height = height;
  title = title;
  description = description;
  below = map figure_of below;
  boxes = map box_of boxes;
  arrows = arrows;
  between = map figure_of between;
  glyphs = map glyph_of glyphs;
  of_steps = steps_of glyphs;
  of_drops = of_drops;
  text = to_svg ∙ ap (λ t. t ++ codes "</svg>\n") (to_whole ∙ ap (λ t. t ++ flat_map glyph_text (map glyph_of glyphs)) (to_mixed ∙ ap (λ t. t ++ figures_text (map figure_of between)) (to_pointed ∙ ap (λ t. t ++ flat_map arrow_text arrows) (to_boxed ∙ ap (λ t. t ++ flat_map (box_text source) (map box_of boxes)) (to_drawn ∙ ap (λ t. t ++ figures_text (map figure_of below)) (to_headed ∙ ap (λ t. t ++ head_text width height title description) is_empty))))));
}
