-- The figures of a picture, and how each is spelled: none has a title.
use Rattle.std.specs.Prelude.{ℕ, ◌==◌, List, [], ◌∷◌, ◌++◌, ◌&&◌, nat_le, length, codes, decimal, flat_map}
use Rattle.std.specs.Prelude.{if◌then◌else◌}

-- a byte of words for people, escaped for XML; what is not printable ASCII is shown as `?`
abbrev pub xml_escape : ℕ → List ℕ
xml_escape b =
    if b == 38 then codes "&amp;" else
    if b == 60 then codes "&lt;" else
    if b == 62 then codes "&gt;" else
    if nat_le 32 b && nat_le b 126 then b ∷ [] else 63 ∷ []

abbrev pub xml : List ℕ → List ℕ
xml words = flat_map xml_escape words

-- Words whose baseline begins at a point, a rectangle by its upper left corner and its size, a line through points, or
-- a symbol at a point. A class defines its style.
pub data Figure : Type 0 where
  Words : (x y : ℕ) (class words : List ℕ) → Figure
  Rectangle : (x y width height : ℕ) (class : List ℕ) → Figure
  Line : (points : List (ℕ × ℕ)) (class : List ℕ) → Figure
  Symbol : (name : List ℕ) (x y : ℕ) → Figure

-- an attribute whose value is a number
abbrev pub measure : List ℕ → ℕ → List ℕ
measure name value = codes " " ++ name ++ codes "=\"" ++ decimal value ++ codes "\""

-- the attribute of a class, if it has a name
abbrev pub class_text : List ℕ → List ℕ
class_text class = if length class == 0 then [] else codes " class=\"" ++ xml class ++ codes "\""

-- the attribute that names a symbol
abbrev pub reference : List ℕ → List ℕ
reference name = codes " href=\"#" ++ xml name ++ codes "\""

abbrev pub point_text : ℕ × ℕ → List ℕ
point_text point = decimal point.0 ++ codes "," ++ decimal point.1 ++ codes " "

abbrev pub line_text : List (ℕ × ℕ) → List ℕ → List ℕ
line_text points class =
    codes "<polyline points=\"" ++ flat_map point_text points ++ codes "\"" ++ class_text class ++ codes "/>\n"

abbrev pub figure_text : Figure → List ℕ
figure_text (Words x y class words) =
    codes "<text" ++ measure (codes "x") x ++ measure (codes "y") y ++ class_text class ++ codes ">"
    ++ xml words ++ codes "</text>\n"
figure_text (Rectangle x y width height class) =
    codes "<rect" ++ measure (codes "x") x ++ measure (codes "y") y ++ measure (codes "width") width
    ++ measure (codes "height") height ++ class_text class ++ codes "/>\n"
figure_text (Line points class) = line_text points class
figure_text (Symbol name x y) =
    codes "<use" ++ reference name ++ measure (codes "x") x ++ measure (codes "y") y ++ codes "/>\n"

abbrev pub figures_text : List Figure → List ℕ
figures_text figures = flat_map figure_text figures
