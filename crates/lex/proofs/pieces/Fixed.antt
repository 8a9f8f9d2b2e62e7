-- All tokens of one spelling, in one list: what computes for the list is known of each of them.
use Rattle.std.proofs.Common.{◌≡◌, ℕ, zero, suc, ◌<◌, Bool, true, List, [], ◌∷◌, length, arith, refl, subst}
use Rattle.std.specs.List.{list_all}
use Rattle.std.proofs.lemmas.Bool.{and_parts}
use Rattle.lex.specs.declared.token.Fixed.{Fixed}
use Rattle.lex.specs.declared.token.Fixed.TheVariants.{Keyword, Punctuator}
use Rattle.lex.specs.declared.token.Keyword.TheVariants as key
use Rattle.lex.specs.declared.token.Punctuator.TheVariants as punct

-- keywords, and then punctuators
abbrev pub all : List Fixed
all =
    Keyword key.Int ∷ Keyword key.Unsigned ∷ Keyword key.Signed ∷ Keyword key.Long ∷ Keyword key.Void ∷ Keyword key.If ∷
    Keyword key.Else ∷ Keyword key.While ∷ Keyword key.Do ∷ Keyword key.For ∷ Keyword key.Break ∷
    Keyword key.Continue ∷ Keyword key.Return ∷ Keyword key.Printf ∷ Keyword key.Atomic ∷ Keyword key.Relaxed ∷
    Keyword key.Cancel ∷ Keyword key.Attribute ∷ Punctuator punct.OpenBrace ∷ Punctuator punct.CloseBrace ∷
    Punctuator punct.OpenParen ∷ Punctuator punct.CloseParen ∷ Punctuator punct.OpenBracket ∷
    Punctuator punct.CloseBracket ∷ Punctuator punct.Semicolon ∷ Punctuator punct.Comma ∷
    Punctuator punct.Question ∷ Punctuator punct.Colon ∷ Punctuator punct.Assign ∷ Punctuator punct.AddAssign ∷
    Punctuator punct.SubtractAssign ∷ Punctuator punct.MultiplyAssign ∷ Punctuator punct.DivideAssign ∷
    Punctuator punct.RemainderAssign ∷ Punctuator punct.ShiftLeftAssign ∷ Punctuator punct.ShiftRightAssign ∷
    Punctuator punct.AndAssign ∷ Punctuator punct.OrAssign ∷ Punctuator punct.XorAssign ∷
    Punctuator punct.Increment ∷ Punctuator punct.Decrement ∷ Punctuator punct.LogicalOr ∷
    Punctuator punct.LogicalAnd ∷ Punctuator punct.Or ∷ Punctuator punct.Xor ∷ Punctuator punct.And ∷
    Punctuator punct.Equal ∷ Punctuator punct.NotEqual ∷ Punctuator punct.Less ∷ Punctuator punct.Greater ∷
    Punctuator punct.LessEqual ∷ Punctuator punct.GreaterEqual ∷ Punctuator punct.ShiftLeft ∷
    Punctuator punct.ShiftRight ∷ Punctuator punct.Plus ∷ Punctuator punct.Minus ∷ Punctuator punct.Star ∷
    Punctuator punct.Slash ∷ Punctuator punct.Percent ∷ Punctuator punct.Not ∷ Punctuator punct.Complement ∷ []

-- each of a list has the property
abbrev pub Every : (Fixed → Type 0) → List Fixed → Type 0
Every P [] = Unit {0}
Every P (k ∷ ks) = P k × Every P ks

-- what stands in a list at an index, and at last an `int`
abbrev pub nth : List Fixed → ℕ → Fixed
nth [] n = Keyword key.Int
nth (k ∷ ks) zero = k
nth (k ∷ ks) (suc n) = nth ks n

at : (P : Fixed → Type 0) (ks : List Fixed) → Every P ks → (n : ℕ) → n < length ks → P (nth ks n)
at P [] h n lt = absurd (omega arith)
at P (k ∷ ks) h zero lt = h.0
at P (k ∷ ks) h (suc n) lt = at P ks h.1 n (omega arith)

-- where a token of one spelling stands in the list
pub record Placed (k : Fixed) : Type 0 where
  pub n : ℕ
  pub within : n < length all
  pub is : nth all n ≡ k

pub placed : (k : Fixed) → Placed k
placed (Keyword key.Int) = record { n = 0; within = omega arith; is = refl }
placed (Keyword key.Unsigned) = record { n = 1; within = omega arith; is = refl }
placed (Keyword key.Signed) = record { n = 2; within = omega arith; is = refl }
placed (Keyword key.Long) = record { n = 3; within = omega arith; is = refl }
placed (Keyword key.Void) = record { n = 4; within = omega arith; is = refl }
placed (Keyword key.If) = record { n = 5; within = omega arith; is = refl }
placed (Keyword key.Else) = record { n = 6; within = omega arith; is = refl }
placed (Keyword key.While) = record { n = 7; within = omega arith; is = refl }
placed (Keyword key.Do) = record { n = 8; within = omega arith; is = refl }
placed (Keyword key.For) = record { n = 9; within = omega arith; is = refl }
placed (Keyword key.Break) = record { n = 10; within = omega arith; is = refl }
placed (Keyword key.Continue) = record { n = 11; within = omega arith; is = refl }
placed (Keyword key.Return) = record { n = 12; within = omega arith; is = refl }
placed (Keyword key.Printf) = record { n = 13; within = omega arith; is = refl }
placed (Keyword key.Atomic) = record { n = 14; within = omega arith; is = refl }
placed (Keyword key.Relaxed) = record { n = 15; within = omega arith; is = refl }
placed (Keyword key.Cancel) = record { n = 16; within = omega arith; is = refl }
placed (Keyword key.Attribute) = record { n = 17; within = omega arith; is = refl }
placed (Punctuator punct.OpenBrace) = record { n = 18; within = omega arith; is = refl }
placed (Punctuator punct.CloseBrace) = record { n = 19; within = omega arith; is = refl }
placed (Punctuator punct.OpenParen) = record { n = 20; within = omega arith; is = refl }
placed (Punctuator punct.CloseParen) = record { n = 21; within = omega arith; is = refl }
placed (Punctuator punct.OpenBracket) = record { n = 22; within = omega arith; is = refl }
placed (Punctuator punct.CloseBracket) = record { n = 23; within = omega arith; is = refl }
placed (Punctuator punct.Semicolon) = record { n = 24; within = omega arith; is = refl }
placed (Punctuator punct.Comma) = record { n = 25; within = omega arith; is = refl }
placed (Punctuator punct.Question) = record { n = 26; within = omega arith; is = refl }
placed (Punctuator punct.Colon) = record { n = 27; within = omega arith; is = refl }
placed (Punctuator punct.Assign) = record { n = 28; within = omega arith; is = refl }
placed (Punctuator punct.AddAssign) = record { n = 29; within = omega arith; is = refl }
placed (Punctuator punct.SubtractAssign) = record { n = 30; within = omega arith; is = refl }
placed (Punctuator punct.MultiplyAssign) = record { n = 31; within = omega arith; is = refl }
placed (Punctuator punct.DivideAssign) = record { n = 32; within = omega arith; is = refl }
placed (Punctuator punct.RemainderAssign) = record { n = 33; within = omega arith; is = refl }
placed (Punctuator punct.ShiftLeftAssign) = record { n = 34; within = omega arith; is = refl }
placed (Punctuator punct.ShiftRightAssign) = record { n = 35; within = omega arith; is = refl }
placed (Punctuator punct.AndAssign) = record { n = 36; within = omega arith; is = refl }
placed (Punctuator punct.OrAssign) = record { n = 37; within = omega arith; is = refl }
placed (Punctuator punct.XorAssign) = record { n = 38; within = omega arith; is = refl }
placed (Punctuator punct.Increment) = record { n = 39; within = omega arith; is = refl }
placed (Punctuator punct.Decrement) = record { n = 40; within = omega arith; is = refl }
placed (Punctuator punct.LogicalOr) = record { n = 41; within = omega arith; is = refl }
placed (Punctuator punct.LogicalAnd) = record { n = 42; within = omega arith; is = refl }
placed (Punctuator punct.Or) = record { n = 43; within = omega arith; is = refl }
placed (Punctuator punct.Xor) = record { n = 44; within = omega arith; is = refl }
placed (Punctuator punct.And) = record { n = 45; within = omega arith; is = refl }
placed (Punctuator punct.Equal) = record { n = 46; within = omega arith; is = refl }
placed (Punctuator punct.NotEqual) = record { n = 47; within = omega arith; is = refl }
placed (Punctuator punct.Less) = record { n = 48; within = omega arith; is = refl }
placed (Punctuator punct.Greater) = record { n = 49; within = omega arith; is = refl }
placed (Punctuator punct.LessEqual) = record { n = 50; within = omega arith; is = refl }
placed (Punctuator punct.GreaterEqual) = record { n = 51; within = omega arith; is = refl }
placed (Punctuator punct.ShiftLeft) = record { n = 52; within = omega arith; is = refl }
placed (Punctuator punct.ShiftRight) = record { n = 53; within = omega arith; is = refl }
placed (Punctuator punct.Plus) = record { n = 54; within = omega arith; is = refl }
placed (Punctuator punct.Minus) = record { n = 55; within = omega arith; is = refl }
placed (Punctuator punct.Star) = record { n = 56; within = omega arith; is = refl }
placed (Punctuator punct.Slash) = record { n = 57; within = omega arith; is = refl }
placed (Punctuator punct.Percent) = record { n = 58; within = omega arith; is = refl }
placed (Punctuator punct.Not) = record { n = 59; within = omega arith; is = refl }
placed (Punctuator punct.Complement) = record { n = 60; within = omega arith; is = refl }

-- what each of the list has, each token of one spelling has
pub each : (P : Fixed → Type 0) → Every P all → (k : Fixed) → P k
each P h k = subst P (placed k).is (at P all h (placed k).n (placed k).within)

every : (p : Fixed → Bool) (ks : List Fixed) → list_all p ks ≡ true → Every (λ k. p k ≡ true) ks
every p [] e = tt
every p (k ∷ ks) e = let h = and_parts (p k) (list_all p ks) e in (h.0, every p ks h.1)

-- a test that each of the list passes, each token of one spelling passes
pub passes : (p : Fixed → Bool) → list_all p all ≡ true → (k : Fixed) → p k ≡ true
passes p e = each (λ k. p k ≡ true) (every p all e)
