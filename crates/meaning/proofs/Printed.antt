-- A format that is printed byte by byte.
use Rattle.std.proofs.Common.{◌≡◌, ℕ, ◌+◌, List, [], ◌∷◌, ◌++◌, drop, Bool, true, false, refl, sym, ap, ◌∙◌, append_assoc}
use Rattle.std.proofs.lemmas.List.{drop-drop}
use Rattle.syntax.specs.Tree.{Scalar}
use Rattle.syntax.specs.declared.value.Value.{Value}
use Rattle.syntax.specs.declared.thread_end.Halt.{Halt}
use Rattle.syntax.specs.Actions.{State, Answer, Gives, Stops, go_on, tick, write, ◌>>◌}
use Rattle.syntax.specs.Formats.{Piece, Literal, Specifier, literal, pieces}
use Rattle.syntax.specs.Meaning.{print_pieces}
use Rattle.meaning.specs.inner.Printing.{push_byte, specifier, print_from}

-- what was written joins what is written behind it
wrote : (s : State) (c : ℕ) (cs : List ℕ) → record s { text = s.text ++ c ∷ cs } ≡ record s { text = (s.text ++ c ∷ []) ++ cs }
wrote s c cs = ap (λ t. record s { text = t }) (sym (append_assoc s.text (c ∷ []) cs))

ticked : (ps : List Piece) (vs : List Value) (c : ℕ) (cs : List ℕ) (r : Answer (Unit {0})) →
    go_on (go_on r (λ u. write (c ∷ cs))) (λ u. print_pieces ps vs) ≡ go_on (go_on r (λ u. write (c ∷ []))) (λ u. write cs >> print_pieces ps vs)
ticked ps vs c cs (Gives u s) = ap (print_pieces ps vs) (wrote s c cs)
ticked ps vs c cs (Stops why s) = refl

-- one byte of a literal piece
pub pushed_continued : (begun : Bool) (c : ℕ) (ps : List Piece) (vs : List Value) (s : State) → print_from begun (literal c ps) vs s ≡ go_on (push_byte begun c s) (λ u. print_from true ps vs)
pushed_continued true c (Literal cs ∷ ps) vs s = ap (print_pieces ps vs) (wrote s c cs)
pushed_continued false c (Literal cs ∷ ps) vs s = ticked ps vs c cs (tick s)
pushed_continued begun c ps vs s = refl

-- a specifier, with the first of the values
specifier_continued : (begun : Bool) (t : Scalar) (ps : List Piece) (vs : List Value) (s : State) → print_from begun (Specifier t ∷ ps) vs s ≡ go_on (specifier t vs s) (λ u. print_pieces ps (drop 1 vs))
specifier_continued true t ps [] s = refl
specifier_continued true t ps (v ∷ vs) s = refl
specifier_continued false t ps [] s = refl
specifier_continued false t ps (v ∷ vs) s = refl

-- from one directive of a format on
module _ (format : List ℕ) (values : List Value) (begun : Bool) (i k : ℕ) (s : State) (whole : Answer (Unit {0})) where
  pub byte_goes : (c next : ℕ) (now : State) → print_from begun (pieces (drop i format)) (drop k values) s ≡ whole → pieces (drop i format) ≡ literal c (pieces (drop next format)) → push_byte begun c s ≡ Gives tt now →
      print_from true (pieces (drop next format)) (drop k values) now ≡ whole
  byte_goes c next now inv is d =
      sym (ap (λ r. go_on r (λ u. print_from true (pieces (drop next format)) (drop k values))) d)
      ∙ sym (pushed_continued begun c (pieces (drop next format)) (drop k values) s) ∙ ap (λ ps. print_from begun ps (drop k values) s) (sym is) ∙ inv

  pub byte_stops : (c next : ℕ) (now : State) (why : Halt) → print_from begun (pieces (drop i format)) (drop k values) s ≡ whole → pieces (drop i format) ≡ literal c (pieces (drop next format)) → push_byte begun c s ≡ Stops why now → whole ≡ Stops why now
  byte_stops c next now why inv is d =
      sym inv ∙ ap (λ ps. print_from begun ps (drop k values) s) is ∙ pushed_continued begun c (pieces (drop next format)) (drop k values) s
      ∙ ap (λ r. go_on r (λ u. print_from true (pieces (drop next format)) (drop k values))) d

  pub specifier_goes : (t : Scalar) (next : ℕ) (now : State) → print_from begun (pieces (drop i format)) (drop k values) s ≡ whole → pieces (drop i format) ≡ Specifier t ∷ pieces (drop next format) → specifier t (drop k values) s ≡ Gives tt now →
      print_from false (pieces (drop next format)) (drop (k + 1) values) now ≡ whole
  specifier_goes t next now inv is d =
      ap (λ vs. print_pieces (pieces (drop next format)) vs now) (sym (drop-drop 1 k values))
      ∙ sym (ap (λ r. go_on r (λ u. print_pieces (pieces (drop next format)) (drop 1 (drop k values)))) d)
      ∙ sym (specifier_continued begun t (pieces (drop next format)) (drop k values) s) ∙ ap (λ ps. print_from begun ps (drop k values) s) (sym is) ∙ inv
