-- What a piece is, by its first byte.
use Rattle.std.proofs.Common.{◌≡◌, ℕ, zero, suc, ◌<◌, ◌≤◌, inl, inr, Bool, true, false, not, ◌||◌, ◌==◌, nat_le, if◌then◌else◌, List, [], ◌∷◌, ◌++◌, length, take, slice_index, codes, refl, sym, ap, ◌∙◌, arith, subst}
use Rattle.lex.proofs.pieces.Runs.{front_byte}
use Rattle.lex.proofs.pieces.Fixed.{all, passes}
use Rattle.std.specs.List.{list_all}
use Rattle.std.proofs.lemmas.Bool.Decides.{nat_tests}
use Rattle.std.proofs.lemmas.Bool.{and_parts, leb-true}
use Rattle.lex.specs.declared.constant.Base.{Base}
use Rattle.lex.specs.declared.constant.Base.TheVariants.{Decimal, Octal, Hexadecimal}
use Rattle.lex.specs.declared.token.Fixed.{Fixed}
use Rattle.lex.specs.Spelling.{spelling}
use Rattle.lex.specs.Bytes.{is_white, is_letter, is_digit, is_part, Only}
use Rattle.lex.specs.Pieces.{IsComment, IsOpen, IsLine, IsDirective, IsString, Constant, Shape}
use Rattle.lex.specs.Pieces as s

pub data Class : Type 0 where
  space : Class
  letter : Class
  digit : Class
  number : Class
  quotes : Class
  slash : Class
  other : Class

-- the class of the first test that a byte passes
abbrev pub first_class : List ((ℕ → Bool) × Class) → ℕ → Class
first_class [] b = other
first_class (c ∷ cs) b = if c.0 b then c.1 else first_class cs b

abbrev pub class_of : ℕ → Class
class_of =
    first_class ((is_white, space) ∷ (is_letter, letter) ∷ (is_digit, digit)
    ∷ ((λ b. b == 35), number) ∷ ((λ b. b == 34), quotes) ∷ ((λ b. b == 47), slash) ∷ [])

abbrev pub class : List ℕ → Class
class w = class_of (slice_index w 0)

pub white_class : (b : ℕ) → is_white b ≡ true → class_of b ≡ space
white_class b h = rw h refl

pub letter_class : (b : ℕ) → is_letter b ≡ true → class_of b ≡ letter
letter_class b h =
    let no : is_white b ≡ false = grind (arith, nat_tests) in
    rw (no, h) refl

pub digit_class : (b : ℕ) → is_digit b ≡ true → class_of b ≡ digit
digit_class b h =
    let no : is_white b ≡ false = grind (arith, nat_tests) in
    let not : is_letter b ≡ false = grind (arith, nat_tests) in
    rw (no, not, h) refl

pub byte_class : (b k : ℕ) → b ≡ k → class_of b ≡ class_of k
byte_class b k e = ap class_of e

-- the first byte of a constant is a digit
pub constant_first : {w : List ℕ} → (c : Constant w) → is_digit (slice_index w 0) ≡ true
constant_first {w} c = go w c.base c.before c.digits c.suffix c.whole c.written c.all
  where
    first : (ds suffix : List ℕ) → 0 < length ds → slice_index (ds ++ suffix) 0 ≡ slice_index ds 0
    first [] suffix lt = absurd (omega arith)
    first (d ∷ ds) suffix lt = refl

    go : (w : List ℕ) (b : Base) (before digits suffix : List ℕ) → w ≡ before ++ (digits ++ suffix) → s.IsInBase b before digits → Only (s.is_digit_of b) digits → is_digit (slice_index w 0) ≡ true
    go w Decimal before digits suffix e i all =
        let h : w ≡ digits ++ suffix = e ∙ ap (λ (z : List ℕ). z ++ (digits ++ suffix)) i.0 in
        ap (λ (z : List ℕ). is_digit (slice_index z 0)) h ∙ ap is_digit (first digits suffix i.1) ∙ all 0 i.1
    go w Octal before digits suffix e i all =
        let h : w ≡ 48 ∷ (digits ++ suffix) = e ∙ ap (λ (z : List ℕ). z ++ (digits ++ suffix)) i in
        ap (λ (z : List ℕ). is_digit (slice_index z 0)) h
    go w Hexadecimal before digits suffix e i all = elim i.0 [
      | inl j ↦ ap (λ (z : List ℕ). is_digit (slice_index z 0)) (e ∙ ap (λ (z : List ℕ). z ++ (digits ++ suffix)) j)
      | inr j ↦ ap (λ (z : List ℕ). is_digit (slice_index z 0)) (e ∙ ap (λ (z : List ℕ). z ++ (digits ++ suffix)) j)
    ]

-- the class of a shape's first byte
abbrev pub shape_class : {w : List ℕ} → Shape w → Class
shape_class (s.white h) = space
shape_class (s.comment h) = slash
shape_class (s.line h) = slash
shape_class (s.open_comment h) = slash
shape_class (s.directive h) = number
shape_class (s.word h) = letter
shape_class (s.constant c) = digit
shape_class (s.string i h) = quotes
shape_class (s.quote h) = quotes
shape_class (s.fixed m h) = class (spelling m)

pub classed : {w : List ℕ} (x : Shape w) → class w ≡ shape_class x
classed {w} (s.white h) = white_class (slice_index w 0) h.1
classed {w} (s.comment h) = byte_class (slice_index w 0) 47 h.opens.0
classed {w} (s.line h) = byte_class (slice_index w 0) 47 h.slashes.0
classed {w} (s.open_comment h) = byte_class (slice_index w 0) 47 h.opens.0
classed {w} (s.directive h) = byte_class (slice_index w 0) 35 h.number
classed {w} (s.word h) = letter_class (slice_index w 0) h.1
classed {w} (s.constant c) = digit_class (slice_index w 0) (constant_first c)
classed {w} (s.string i h) = ap class h.written
classed {w} (s.quote h) = ap class h
classed {w} (s.fixed m h) = ap class h

-- keywords are words
pub only_from : (p : ℕ → Bool) (w : List ℕ) → list_all p w ≡ true → Only p w
only_from p [] e k lt = absurd (omega arith)
only_from p (b ∷ w) e zero lt = (and_parts (p b) (list_all p w) e).0
only_from p (b ∷ w) e (suc k) lt = only_from p w (and_parts (p b) (list_all p w) e).1 k (omega arith)

-- a test that the tokens of one spelling pass which begin with a byte of a class
abbrev pub passes_where : (Class → Bool) → (Fixed → Bool) → Fixed → Bool
passes_where at p k = not (at (class (spelling k))) || p k

pub passes_at : (at : Class → Bool) (p : Fixed → Bool) → list_all (passes_where at p) all ≡ true → (k : Fixed) (c : Class) → class (spelling k) ≡ c → at c ≡ true → p k ≡ true
passes_at at p h k c e t = subst (λ (b : Bool). (not b || p k) ≡ true) (ap at e ∙ t) (passes (passes_where at p) h k)

abbrev pub at_letter : Class → Bool
at_letter letter = true
at_letter _ = false

abbrev pub at_slash : Class → Bool
at_slash slash = true
at_slash _ = false

pub keyword_parts : (k : Fixed) → class (spelling k) ≡ letter → list_all is_part (spelling k) ≡ true
keyword_parts k e = passes_at at_letter (λ k. list_all is_part (spelling k)) refl k letter e refl

-- no token of one spelling begins like anything but a word, a comment or a punctuator
abbrev pub begins_fixed : Class → Bool
begins_fixed letter = true
begins_fixed slash = true
begins_fixed other = true
begins_fixed _ = false

pub no_fixed : (k : Fixed) (c : Class) → class (spelling k) ≡ c → begins_fixed c ≡ false → ⊥
no_fixed k c e f =
    let t : begins_fixed (class (spelling k)) ≡ true = passes (λ k. begins_fixed (class (spelling k))) refl k in
    let g : begins_fixed (class (spelling k)) ≡ false = ap begins_fixed e ∙ f in
    cc

pub slash_length : (k : Fixed) → class (spelling k) ≡ slash → length (spelling k) ≤ 2
slash_length k e = leb-true (length (spelling k)) 2 (passes_at at_slash (λ k. nat_le (length (spelling k)) 2) refl k slash e refl)

-- what a shape is, by the class of its first byte
pub word_only : (w : List ℕ) (x : Shape w) → shape_class x ≡ letter → Only is_part w
word_only w (s.word h) e = h.2
word_only w (s.fixed m h) e = subst (Only is_part) (sym h) (only_from is_part (spelling m) (keyword_parts m e))
word_only w x e = absurd cc

pub constant_only : (w : List ℕ) (x : Shape w) → shape_class x ≡ digit → Constant w
constant_only w (s.constant c) e = c
constant_only w (s.fixed m h) e = absurd (no_fixed m digit e refl)
constant_only w x e = absurd cc

pub directive_only : (w : List ℕ) (x : Shape w) → shape_class x ≡ number → IsDirective w
directive_only w (s.directive h) e = h
directive_only w (s.fixed m h) e = absurd (no_fixed m number e refl)
directive_only w x e = absurd cc

pub data Quoted (w : List ℕ) : Type 0 where
  string : (inner : List ℕ) → IsString w inner → Quoted w
  alone : w ≡ codes "\"" → Quoted w

pub quotes_only : (w : List ℕ) (x : Shape w) → shape_class x ≡ quotes → Quoted w
quotes_only w (s.string i h) e = string i h
quotes_only w (s.quote h) e = alone h
quotes_only w (s.fixed m h) e = absurd (no_fixed m quotes e refl)
quotes_only w x e = absurd cc

pub data Slashed (w : List ℕ) : Type 0 where
  closed : IsComment w → Slashed w
  line : IsLine w → Slashed w
  unclosed : IsOpen w → Slashed w
  fixed : (k : Fixed) → class (spelling k) ≡ slash → w ≡ spelling k → Slashed w

pub slash_only : (w : List ℕ) (x : Shape w) → shape_class x ≡ slash → Slashed w
slash_only w (s.comment h) e = closed h
slash_only w (s.line h) e = line h
slash_only w (s.open_comment h) e = unclosed h
slash_only w (s.fixed m h) e = fixed m e h
slash_only w x e = absurd cc

pub other_only : (w : List ℕ) (x : Shape w) → shape_class x ≡ other → (k : Fixed) × (w ≡ spelling k)
other_only w (s.fixed m h) e = (m, h)
other_only w x e = absurd cc

-- the class of what stands at the front is that of the text
pub front_class : (rest : List ℕ) (n : ℕ) → 0 < n → (x : Shape (take n rest)) → shape_class x ≡ class rest
front_class rest n lt x = sym (classed x) ∙ ap class_of (front_byte rest n 0 lt)
