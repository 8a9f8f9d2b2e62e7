-- Lists that end at a fixed token, and lists with commas, as loops read them.
use Rattle.std.proofs.Common.{◌≡◌, false, List, [], ◌∷◌, Result, Ok, Err, refl}
use Rattle.lex.specs.declared.token.Fixed.{Fixed}
use Rattle.lex.specs.declared.token.Fixed.TheVariants.{Punctuator}
use Rattle.lex.specs.declared.token.Punctuator.TheVariants as punct
use Rattle.lex.specs.Tokens.{Tok}
use Rattle.parse.specs.inner.Reading.{Fault, wrong, ◌>>=◌, Parser, head, expect, is_next, is_other, many_until, behind, before, comma_list}
use Rattle.parse.specs.inner.Statements.{block_items}
use Rattle.parse.proofs.code.Turns.{onward, joined}

pub expect_not : (k : Fixed) (ts : List Tok) → is_next k (head ts) ≡ false → expect k ts ≡ Err (wrong ts)
expect_not k [] h = refl
expect_not k (t ∷ ts) h = rw h refl

-- up to a fixed token, which is read
abbrev pub ended : {A : Type 0} → Fixed → Result (List A × List Tok) Fault → Result (List A × List Tok) Fault
ended k read = joined (expect k) read >>= λ x. Ok (x.0.0, x.1)

-- what stands behind a fixed token that was read
pub behind_is : {A : Type 0} (k : Fixed) (P : Parser A) (ts inner : List Tok) → expect k ts ≡ Ok (tt, inner) → behind k P ts ≡ P inner
behind_is {A} k P ts inner e = rw e (same (P inner))
  where
    same : (r : Result (A × List Tok) Fault) → ((r >>= λ (y : A × List Tok). Ok ((tt, y.0), y.1)) >>= λ (x : (Unit {0} × A) × List Tok). Ok (x.0.1, x.1)) ≡ r
    same (Ok x) = refl
    same (Err f) = refl

pub braced_is : {A : Type 0} (P : Parser A) (ts inner : List Tok) → expect (Punctuator punct.OpenBrace) ts ≡ Ok (tt, inner) → block_items P ts ≡ ended (Punctuator punct.CloseBrace) (many_until (is_next (Punctuator punct.CloseBrace)) P inner)
braced_is P ts inner e = behind_is (Punctuator punct.OpenBrace) (before (Punctuator punct.CloseBrace) (many_until (is_next (Punctuator punct.CloseBrace)) P)) ts inner e

-- ---- a first one, and then the others

abbrev with_first : {A : Type 0} → A → List A × List Tok → Result ((A × List A) × List Tok) Fault
with_first x y = Ok ((x, y.0), y.1)

abbrev in_front : {A : Type 0} → (A × List A) × List Tok → Result (List A × List Tok) Fault
in_front x = Ok (x.0.0 ∷ x.0.1, x.1)

pub first_is : {A : Type 0} (x : A) (read : Result (List A × List Tok) Fault) → ((read >>= with_first x) >>= in_front) ≡ onward (x ∷ []) read
first_is x (Ok y) = refl
first_is x (Err f) = refl

pub listed_is : {A : Type 0} (P : Parser A) (ts inner : List Tok) (x : A) → P ts ≡ Ok (x, inner) → comma_list P ts ≡ onward (x ∷ []) (many_until (is_other (Punctuator punct.Comma)) (behind (Punctuator punct.Comma) P) inner)
listed_is P ts inner x e = rw e (first_is x (many_until (is_other (Punctuator punct.Comma)) (behind (Punctuator punct.Comma) P) inner))
