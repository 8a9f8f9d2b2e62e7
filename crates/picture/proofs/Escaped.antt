-- Words as XML wants them hold no `<`.
use Rattle.std.proofs.Common.{◌≡◌, ℕ, List, [], ◌∷◌, refl, false, arith}
use Rattle.std.specs.Prelude.{◌==◌}
use Rattle.std.specs.List.{list_any}
use Rattle.std.proofs.lemmas.List.Concat.{flat_map-cons}
use Rattle.std.proofs.lemmas.List.Folds.{list_any-append}
use Rattle.picture.specs.Boxes.{source_escape, source_xml}
use Rattle.picture.specs.Figures.{xml_escape, xml}

-- nor does a byte
of_byte : (b : ℕ) → list_any (λ c. c == 60) (xml_escape b) ≡ false
of_byte b = grind arith

pub no_bracket : (line : List ℕ) → list_any (λ c. c == 60) (xml line) ≡ false
no_bracket [] = refl
no_bracket (b ∷ line) = rw (flat_map-cons xml_escape b line, list_any-append (λ c. c == 60) (xml_escape b) (xml line), of_byte b, no_bracket line) refl

-- nor does a source's text
of_source_byte : (b : ℕ) → list_any (λ c. c == 60) (source_escape b) ≡ false
of_source_byte b = grind arith

pub no_bracket_of_source : (text : List ℕ) → list_any (λ c. c == 60) (source_xml text) ≡ false
no_bracket_of_source [] = refl
no_bracket_of_source (b ∷ text) = rw (flat_map-cons source_escape b text, list_any-append (λ c. c == 60) (source_escape b) (source_xml text), of_source_byte b, no_bracket_of_source text) refl
