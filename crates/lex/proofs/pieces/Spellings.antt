-- What tokens of one spelling and reserved words are spelled like.
use Rattle.std.proofs.Common.{◌≡◌, ℕ, zero, suc, ◌+◌, ◌<◌, ◌&&◌, ◌||◌, ◌==◌, ◌⊎◌, inl, inr, Bool, true, false, not, if◌then◌else◌, List, [], ◌∷◌, length, slice_index, codes, refl, sym, ap, ◌∙◌, arith, subst, eqb-true}
use Rattle.std.proofs.lemmas.Bool.{and_parts, or_cases}
use Rattle.lex.specs.declared.token.Fixed.{Fixed}
use Rattle.lex.specs.Spelling.{spelling, Reserved}
use Rattle.lex.specs.Spelling as words
use Rattle.lex.proofs.pieces.Fixed.{all, nth, placed, passes}
use Rattle.lex.proofs.pieces.Classes.{letter, slash, class, at_slash, passes_at}

abbrev same : List ℕ → List ℕ → Bool
same [] [] = true
same [] (y ∷ ys) = false
same (x ∷ xs) [] = false
same (x ∷ xs) (y ∷ ys) = x == y && same xs ys

-- at which index of a list a spelling stands first
abbrev index_of : List Fixed → List ℕ → ℕ
index_of [] w = 0
index_of (k ∷ ks) w = if same w (spelling k) then 0 else 1 + index_of ks w

-- from an index of the whole list on, each spelling stands first where it is listed
abbrev stand_first : List Fixed → ℕ → Bool
stand_first [] n = true
stand_first (k ∷ ks) n = index_of all (spelling k) == n && stand_first ks (1 + n)

first_indices : (ks : List Fixed) (m n : ℕ) → stand_first ks m ≡ true → n < length ks → index_of all (spelling (nth ks n)) ≡ m + n
first_indices [] m n e lt = absurd (omega arith)
first_indices (k ∷ ks) m zero e lt =
    let h : index_of all (spelling k) ≡ m = eqb-true (index_of all (spelling k)) m (and_parts (index_of all (spelling k) == m) (stand_first ks (1 + m)) e).0 in
    omega arith
first_indices (k ∷ ks) m (suc n) e lt =
    let h = first_indices ks (1 + m) n (and_parts (index_of all (spelling k) == m) (stand_first ks (1 + m)) e).1 (omega arith) in
    omega arith

has_index : (k : Fixed) → index_of all (spelling k) ≡ (placed k).n
has_index k =
    let h : index_of all (spelling (nth all (placed k).n)) ≡ 0 + (placed k).n = first_indices all 0 (placed k).n refl (placed k).within in
    let first : index_of all (spelling (nth all (placed k).n)) ≡ (placed k).n = omega arith in
    subst (λ (j : Fixed). index_of all (spelling j) ≡ (placed k).n) (placed k).is first

-- no two tokens have one spelling
pub one_fixed : (w : List ℕ) (j k : Fixed) → w ≡ spelling j → w ≡ spelling k → j ≡ k
one_fixed w j k e f =
    let same : (placed j).n ≡ (placed k).n = sym (has_index j) ∙ ap (index_of all) (sym e ∙ f) ∙ has_index k in
    sym (placed j).is ∙ ap (nth all) same ∙ (placed k).is

abbrev is_one_of : List (List ℕ) → List ℕ → Bool
is_one_of [] w = false
is_one_of (v ∷ vs) w = same w v || is_one_of vs w

abbrev is_reserved : List ℕ → Bool
is_reserved =
    is_one_of
    (
    codes "auto" ∷ codes "char" ∷ codes "const" ∷ codes "default" ∷ codes "case" ∷ codes "double" ∷
    codes "enum" ∷ codes "extern" ∷ codes "float" ∷ codes "goto" ∷ codes "inline" ∷
    codes "register" ∷ codes "restrict" ∷ codes "short" ∷ codes "sizeof" ∷ codes "static" ∷
    codes "struct" ∷ codes "switch" ∷ codes "typedef" ∷ codes "union" ∷ codes "volatile" ∷ [])

reserved : (w : List ℕ) → Reserved w → is_reserved w ≡ true
reserved w (words.is_auto e) = ap is_reserved e
reserved w (words.is_char e) = ap is_reserved e
reserved w (words.is_const e) = ap is_reserved e
reserved w (words.is_default e) = ap is_reserved e
reserved w (words.is_case e) = ap is_reserved e
reserved w (words.is_double e) = ap is_reserved e
reserved w (words.is_enum e) = ap is_reserved e
reserved w (words.is_extern e) = ap is_reserved e
reserved w (words.is_float e) = ap is_reserved e
reserved w (words.is_goto e) = ap is_reserved e
reserved w (words.is_inline e) = ap is_reserved e
reserved w (words.is_register e) = ap is_reserved e
reserved w (words.is_restrict e) = ap is_reserved e
reserved w (words.is_short e) = ap is_reserved e
reserved w (words.is_sizeof e) = ap is_reserved e
reserved w (words.is_static e) = ap is_reserved e
reserved w (words.is_struct e) = ap is_reserved e
reserved w (words.is_switch e) = ap is_reserved e
reserved w (words.is_typedef e) = ap is_reserved e
reserved w (words.is_union e) = ap is_reserved e
reserved w (words.is_volatile e) = ap is_reserved e

clash : (b : Bool) → b ≡ true → not b ≡ true → ⊥
clash true t f = cc
clash false t f = cc

pub reserved_not_fixed : (w : List ℕ) (k : Fixed) → Reserved w → w ≡ spelling k → ⊥
reserved_not_fixed w k r e =
    clash (is_reserved (spelling k)) (ap is_reserved (sym e) ∙ reserved w r) (passes (λ k. not (is_reserved (spelling k))) refl k)

pub reserved_class : (w : List ℕ) → Reserved w → class w ≡ letter
reserved_class w (words.is_auto e) = ap class e
reserved_class w (words.is_char e) = ap class e
reserved_class w (words.is_const e) = ap class e
reserved_class w (words.is_default e) = ap class e
reserved_class w (words.is_case e) = ap class e
reserved_class w (words.is_double e) = ap class e
reserved_class w (words.is_enum e) = ap class e
reserved_class w (words.is_extern e) = ap class e
reserved_class w (words.is_float e) = ap class e
reserved_class w (words.is_goto e) = ap class e
reserved_class w (words.is_inline e) = ap class e
reserved_class w (words.is_register e) = ap class e
reserved_class w (words.is_restrict e) = ap class e
reserved_class w (words.is_short e) = ap class e
reserved_class w (words.is_sizeof e) = ap class e
reserved_class w (words.is_static e) = ap class e
reserved_class w (words.is_struct e) = ap class e
reserved_class w (words.is_switch e) = ap class e
reserved_class w (words.is_typedef e) = ap class e
reserved_class w (words.is_union e) = ap class e
reserved_class w (words.is_volatile e) = ap class e

-- a punctuator that begins with a slash has no second slash and no star
pub slash_second : (k : Fixed) → class (spelling k) ≡ slash → (slice_index (spelling k) 1 ≡ 0) ⊎ (slice_index (spelling k) 1 ≡ 61)
slash_second k e =
    let second = λ (k : Fixed). slice_index (spelling k) 1 in
    let either = passes_at at_slash (λ k. second k == 0 || second k == 61) refl k slash e refl in
    elim (or_cases (second k == 0) (second k == 61) either) [
      | inl h ↦ inl (eqb-true (second k) 0 h)
      | inr h ↦ inr (eqb-true (second k) 61 h)
    ]
