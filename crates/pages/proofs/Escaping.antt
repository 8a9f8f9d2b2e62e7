-- JSON inside of HTML has no `<`.
use Rattle.std.proofs.Common.{◌≡◌, ℕ, List, [], ◌∷◌, refl, false, arith}
use Rattle.std.specs.Prelude.{◌==◌}
use Rattle.std.specs.List.{list_any}
use Rattle.std.proofs.lemmas.List.Concat.{flat_map-cons}
use Rattle.std.proofs.lemmas.List.Folds.{list_any-append}
use Rattle.pages.specs.Escaped.{escaped_byte, escaped_text}

-- nor does a byte
of_byte : (b : ℕ) → list_any (λ c. c == 60) (escaped_byte b) ≡ false
of_byte b = grind arith

pub no_bracket : (text : List ℕ) → list_any (λ c. c == 60) (escaped_text text) ≡ false
no_bracket [] = refl
no_bracket (b ∷ text) = rw (flat_map-cons escaped_byte b text, list_any-append (λ c. c == 60) (escaped_byte b) (escaped_text text), of_byte b, no_bracket text) refl
