-- A number that stands at an index of a format.
use Rattle.std.proofs.Common.{◌≡◌, ℕ, zero, suc, ◌+◌, ◌<◌, ◌≤◌, List, [], ◌∷◌, length, drop, Some, true, refl, ap, ◌∙◌, arith}
use Rattle.std.specs.Prelude.{◌==◌, slice_index}
use Rattle.std.proofs.lemmas.List.{drop-drop, drop_more}
use Rattle.syntax.specs.Tree.{Scalar}
use Rattle.syntax.specs.Formats.{Specifier, specifier_at, pieces_from, pieces, is_format_from, is_format}
use Rattle.syntax.specs.FormatDirectives.{IsSpecifierAt}

-- bytes that are used up say nothing
used_pieces : (n : ℕ) (cs : List ℕ) → pieces_from n cs ≡ pieces (drop n cs)
used_pieces zero cs = refl
used_pieces (suc n) [] = refl
used_pieces (suc n) (c ∷ cs) = used_pieces n cs

used_format : (n : ℕ) (cs : List ℕ) → is_format_from n cs ≡ is_format (drop n cs)
used_format zero cs = refl
used_format (suc n) [] = refl
used_format (suc n) (c ∷ cs) = used_format n cs

-- a number behind a percent sign
specifier_pieces : (c : ℕ) (rest : List ℕ) (f : Scalar × ℕ) → (c == 37) ≡ true → specifier_at rest ≡ Some f → pieces (c ∷ rest) ≡ Specifier f.0 ∷ pieces (drop f.1 rest)
specifier_pieces c [] f h is = absurd cc
specifier_pieces c (b ∷ rest) f h is = rw (h, is) (ap (λ ps. Specifier f.0 ∷ ps) (used_pieces f.1 (b ∷ rest)))

specifier_right : (c : ℕ) (rest : List ℕ) (f : Scalar × ℕ) → (c == 37) ≡ true → specifier_at rest ≡ Some f → is_format (c ∷ rest) ≡ is_format (drop f.1 rest)
specifier_right c [] f h is = absurd cc
specifier_right c (b ∷ rest) f h is = rw (h, is) (used_format f.1 (b ∷ rest))

pub specifier_is : (format : List ℕ) (i : ℕ) (f : Scalar × ℕ) → i < length format → (slice_index format i == 37) ≡ true → specifier_at (drop (i + 1) format) ≡ Some f → i + 1 + f.1 ≤ length format → IsSpecifierAt f.0 (i + 1 + f.1) format i
specifier_is format i f less percent is fits =
    let c = slice_index format i in
    let here : drop i format ≡ c ∷ drop (i + 1) format = drop_more format i 0 less in
    let behind : drop f.1 (drop (i + 1) format) ≡ drop (i + 1 + f.1) format = drop-drop f.1 (i + 1) format in
    record {
      is = ap pieces here ∙ specifier_pieces c (drop (i + 1) format) f percent is ∙ ap (λ cs. Specifier f.0 ∷ pieces cs) behind;
      right = ap is_format here ∙ specifier_right c (drop (i + 1) format) f percent is ∙ ap is_format behind;
      after = omega arith;
      within = fits;
    }
