-- The boxes of a picture: each is one of a transaction, and titled by the transaction's text in the source.
use Rattle.std.specs.Prelude.{ℕ, ◌==◌, List, [], ◌∷◌, ◌++◌, Bool, ◌||◌, ◌&&◌, nat_le, nat_lt, min, take, drop, codes}
use Rattle.std.specs.Prelude.{decimal, flat_map, if◌then◌else◌}
use Rattle.std.specs.List.{starts_with}
use Rattle.lex.specs.Places.{line_of}
use Rattle.picture.specs.declared.source.Passage.{Passage}
use Rattle.picture.specs.Figures.{Figure, figures_text, xml_escape}
use Rattle.picture.specs.Glyphs.{group_text}

-- a byte of a source, escaped for XML: line feeds and tabs stay, carriage returns are left out, and a character that is
-- not printable ASCII is shown as one `?`, whose further bytes are left out
abbrev pub source_escape : ℕ → List ℕ
source_escape b =
    if (b == 10) || (b == 9) then b ∷ [] else
    if (b == 13) || (nat_le 128 b && nat_le b 191) then [] else xml_escape b

abbrev pub source_xml : List ℕ → List ℕ
source_xml text = flat_map source_escape text

-- a passage of the source is a transaction's if it begins with a transaction's keyword
abbrev pub is_transaction : (source : List ℕ) → Passage → Bool
is_transaction source p = starts_with (λ a b. a == b) (drop p.start source) (codes "__transaction_")

-- the part of a passage that is shown: its first 1,000 bytes
abbrev pub shown_text : (source : List ℕ) → Passage → List ℕ
shown_text source p = source_xml (take (min p.count 1000) (drop p.start source))
    ++ (if nat_lt 1000 p.count then codes " .." else [])

-- the line on which a passage begins, and then the passage
abbrev pub passage_title : (source : List ℕ) → Passage → List ℕ
passage_title source p = codes "line " ++ decimal (line_of source p.start) ++ codes ":\n" ++ shown_text source p

-- a box: the passage of its transaction, and its drawing
pub record TransactionBox : Type 0 where
  pub passage : Passage
  pub figures : List Figure

-- a box whose passage is not a transaction's has no title
abbrev pub box_text : (source : List ℕ) → TransactionBox → List ℕ
box_text source b =
    if is_transaction source b.passage then group_text (passage_title source b.passage) (figures_text b.figures)
    else figures_text b.figures
