-- The code of a format, directive by directive.
use Rattle.std.proofs.Common.{◌≡◌, ℕ, ◌+◌, ◌<◌, ◌≤◌, List, [], ◌∷◌, ◌++◌, length, drop, get_or, Ok, refl, sym, ap, ◌∙◌, append_assoc}
use Rattle.std.proofs.lemmas.List.{drop_more, drop_all}
use Rattle.lex.specs.declared.token.Scalar.{Scalar}
use Rattle.syntax.specs.Formats.{Piece, Literal, Specifier, literal, pieces}
use Rattle.bytecode.specs.declared.instr.Instr.{Instr}
use Rattle.selection.specs.Lists.{Lists}
use Rattle.selection.specs.Simples.{Written, and_then}
use Rattle.selection.specs.Statements.{pieces_written}
use Rattle.lower_exprs.specs.Fragments.{Adds, of_written}
use Rattle.lower_exprs.proofs.Adding.{written_behind}
use Rattle.lower.specs.inner.Formats.{with_literal, text_written, specifier_written}

-- bytes of text before pieces
joined_more : (cs : List ℕ) (c : ℕ) (ps : List Piece) → with_literal (cs ++ c ∷ []) ps ≡ with_literal cs (literal c ps)
joined_more [] c ps = refl
joined_more (d ∷ cs) c ps = ap (literal d) (joined_more cs c ps)

joined_end : (c : ℕ) (cs : List ℕ) → with_literal (c ∷ cs) [] ≡ Literal (c ∷ cs) ∷ []
joined_end c [] = refl
joined_end c (d ∷ cs) = ap (literal c) (joined_end d cs)

joined_specifier : (c : ℕ) (cs : List ℕ) (t : Scalar) (ps : List Piece) → with_literal (c ∷ cs) (Specifier t ∷ ps) ≡ Literal (c ∷ cs) ∷ Specifier t ∷ ps
joined_specifier c [] t ps = refl
joined_specifier c (d ∷ cs) t ps = ap (literal c) (joined_specifier d cs t ps)

end_is : (cs rs : List ℕ) (from : ℕ) (l : Lists) → pieces_written (with_literal cs []) rs from l ≡ text_written cs from l
end_is [] rs from l = refl
end_is (c ∷ cs) rs from l = ap (λ ps. pieces_written ps rs from l) (joined_end c cs)

stop_is : (cs : List ℕ) (t : Scalar) (ps : List Piece) (from : ℕ) (l : Lists) → pieces_written (with_literal cs (Specifier t ∷ ps)) [] from l ≡ text_written cs from l
stop_is [] t ps from l = refl
stop_is (c ∷ cs) t ps from l = ap (λ qs. pieces_written qs [] from l) (joined_specifier c cs t ps)

specifier_is : (cs : List ℕ) (t : Scalar) (ps : List Piece) (r : ℕ) (rs : List ℕ) (from : ℕ) (l : Lists) →
    pieces_written (with_literal cs (Specifier t ∷ ps)) (r ∷ rs) from l ≡ and_then (specifier_written cs t r from l) (pieces_written ps rs (specifier_written cs t r from l).to (specifier_written cs t r from l).lists)
specifier_is [] t ps r rs from l = refl
specifier_is (c ∷ cs) t ps r rs from l = ap (λ qs. pieces_written qs (r ∷ rs) from l) (joined_specifier c cs t ps)

-- a text needs no registers
pub text_same : (cs : List ℕ) (from : ℕ) (l : Lists) → (text_written cs from l).lists.registers ≡ l.registers
text_same [] from l = refl
text_same (c ∷ cs) from l = refl

-- what is left of a format, with the bytes that are read and not put
module _ (format registers bytes : List ℕ) (i k to : ℕ) (l : Lists) where
  pub byte_goes : (c next : ℕ) (bytes' : List ℕ) → pieces (drop i format) ≡ literal c (pieces (drop next format)) → bytes' ≡ bytes ++ c ∷ [] →
      pieces_written (with_literal bytes' (pieces (drop next format))) (drop k registers) to l ≡ pieces_written (with_literal bytes (pieces (drop i format))) (drop k registers) to l
  byte_goes c next bytes' is n =
      ap (λ ps. pieces_written ps (drop k registers) to l) (ap (λ b. with_literal b (pieces (drop next format))) n ∙ joined_more bytes c (pieces (drop next format)) ∙ ap (with_literal bytes) (sym is))

  specifier_here : (t : Scalar) (next r : ℕ) → pieces (drop i format) ≡ Specifier t ∷ pieces (drop next format) → k < length registers → r ≡ get_or registers k 0 →
      pieces_written (with_literal bytes (pieces (drop i format))) (drop k registers) to l
      ≡ and_then (specifier_written bytes t r to l) (pieces_written (pieces (drop next format)) (drop (k + 1) registers) (specifier_written bytes t r to l).to (specifier_written bytes t r to l).lists)
  specifier_here t next r is h er =
      (λ j. pieces_written (with_literal bytes (is j)) ((drop_more registers k 0 h ∙ ap (λ x. x ∷ drop (k + 1) registers) (sym er)) j) to l)
      ∙ specifier_is bytes t (pieces (drop next format)) r (drop (k + 1) registers) to l

  pub specifier_goes : (next : ℕ) {t : Scalar} {r to' : ℕ} {l' : Lists} {empty : List ℕ} {code code' : List Instr} {whole : Written} → pieces (drop i format) ≡ Specifier t ∷ pieces (drop next format) → k < length registers → r ≡ get_or registers k 0 → empty ≡ [] →
      Adds (of_written (specifier_written bytes t r to l)) code code' l' (Ok to') → written_behind code (pieces_written (with_literal bytes (pieces (drop i format))) (drop k registers) to l) ≡ whole →
      written_behind code' (pieces_written (with_literal empty (pieces (drop next format))) (drop (k + 1) registers) to' l') ≡ whole
  specifier_goes next {t = t} {r = r} {code = code} is h er e0 m inv =
      let put = specifier_written bytes t r to l in
      let rest = pieces_written (pieces (drop next format)) (drop (k + 1) registers) put.to put.lists in
      (λ j. written_behind (m.code j) (pieces_written (with_literal (e0 j) (pieces (drop next format))) (drop (k + 1) registers) (m.end j) (m.lists j)))
      ∙ (λ j. record rest { code = append_assoc code put.code rest.code j })
      ∙ sym (ap (written_behind code) (specifier_here t next r is h er))
      ∙ inv

  -- no register is left for a specifier, and nothing is left of the format
  pub no_register : (t : Scalar) (next : ℕ) → pieces (drop i format) ≡ Specifier t ∷ pieces (drop next format) → length registers ≤ k → pieces_written (with_literal bytes (pieces (drop i format))) (drop k registers) to l ≡ text_written bytes to l
  no_register t next is h = (λ j. pieces_written (with_literal bytes (is j)) (drop_all k registers h j) to l) ∙ stop_is bytes t (pieces (drop next format)) to l

  pub no_piece : length format ≤ i → pieces_written (with_literal bytes (pieces (drop i format))) (drop k registers) to l ≡ text_written bytes to l
  no_piece h = ap (λ xs. pieces_written (with_literal bytes (pieces xs)) (drop k registers) to l) (drop_all i format h) ∙ end_is bytes (drop k registers) to l
