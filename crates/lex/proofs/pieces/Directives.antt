-- Lines that begin with `#`.
use Rattle.std.proofs.Common.{◌≡◌, ℕ, suc, ◌+◌, ◌<◌, Bool, true, false, List, [], ◌∷◌, ◌++◌, length, take, drop, slice_index, codes, refl, sym, ap, ◌∙◌, arith}
use Rattle.std.specs.List.{prefix_len}
use Rattle.std.proofs.lemmas.List.{take-append-drop, drop_at}
use Rattle.lex.specs.Bytes.{is_blank, is_part, Only, starts}
use Rattle.lex.specs.Pieces.{IsInclude}
use Rattle.lex.proofs.pieces.Runs.{only_run}

-- a run ends where a byte fails
pub run_is : (p : ℕ → Bool) (ds z : List ℕ) → Only p ds → starts p z ≡ false → prefix_len p (ds ++ z) ≡ length ds
run_is p [] [] all e = refl
run_is p [] (b ∷ z) all e = rw e refl
run_is p (d ∷ ds) z all e =
    let here : p d ≡ true = all 0 (omega arith) in
    let more = run_is p ds z (λ k lt. all (suc k) (omega arith)) e in
    rw here (let sum : 1 + prefix_len p (ds ++ z) ≡ suc (length ds) = omega arith in sum)

pub include_word : (line : List ℕ) (h : IsInclude line) → drop (prefix_len is_blank (drop 1 line)) (drop 1 line) ≡ codes "include" ++ h.rest
include_word line h =
    let behind : drop 1 line ≡ h.blanks ++ (codes "include" ++ h.rest) = ap (drop 1) h.written in
    let run : prefix_len is_blank (drop 1 line) ≡ length h.blanks = ap (prefix_len is_blank) behind ∙ run_is is_blank h.blanks (codes "include" ++ h.rest) h.blank refl in
    ap (λ (n : ℕ). drop n (drop 1 line)) run ∙ ap (drop (length h.blanks)) behind ∙ drop_at h.blanks (codes "include" ++ h.rest) (length h.blanks) refl

pub include_here : (line rest : List ℕ) → 0 < length line → slice_index line 0 ≡ 35 → drop (prefix_len is_blank (drop 1 line)) (drop 1 line) ≡ codes "include" ++ rest → starts is_part rest ≡ false → IsInclude line
include_here [] rest lt b e p = absurd (omega arith)
include_here (x ∷ line) rest lt b e p = record {
  blanks = take (prefix_len is_blank line) line;
  rest = rest;
  written = ap (λ (k : ℕ). k ∷ line) b ∙ ap (λ (z : List ℕ). 35 ∷ z) (sym (take-append-drop (prefix_len is_blank line) line) ∙ ap (λ (z : List ℕ). take (prefix_len is_blank line) line ++ z) e);
  blank = only_run is_blank line (prefix_len is_blank line) (omega arith);
  parted = p;
}

pub include_not : (line rest : List ℕ) → drop (prefix_len is_blank (drop 1 line)) (drop 1 line) ≡ codes "include" ++ rest → starts is_part rest ≡ true → IsInclude line → ⊥
include_not line rest e p h =
    let same : rest ≡ h.rest = ap (drop 7) (sym e ∙ include_word line h) in
    let bad : true ≡ false = sym p ∙ ap (starts is_part) same ∙ h.parted in
    cc
