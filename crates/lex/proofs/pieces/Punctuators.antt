-- The punctuator at the front.
use Rattle.std.proofs.Common.{◌≡◌, ℕ, zero, suc, ◌<◌, ◌≤◌, Bool, true, false, ◌==◌, if◌then◌else◌, List, [], ◌∷◌, ◌++◌, length, take, drop, slice_index, Option, Some, None, refl, sym, ap, ◌∙◌, arith, subst, eqb-true}
use Rattle.std.specs.Str.{bytes_eq}
use Rattle.std.proofs.lemmas.Slice.Eq.{bytes_eq-Decides}
use Rattle.std.proofs.lemmas.List.{length-take-le, take-append-drop}
use Rattle.lex.specs.declared.token.Fixed.{Fixed}
use Rattle.lex.specs.declared.token.Fixed.TheVariants.{Keyword, Punctuator}
use Rattle.lex.specs.declared.token.Keyword.TheVariants as key
use Rattle.lex.specs.declared.token.Punctuator.{Punctuator as Own}
use Rattle.lex.specs.declared.token.Punctuator.TheVariants as punct
use Rattle.lex.specs.Spelling.{spelling}
use Rattle.lex.specs.inner.Punctuators.{singles, doubles, triples, spelled_so, one, two, three, with_length, punctuator_at, NoOtherPiece}
use Rattle.lex.specs.Pieces.{Shape, Longest, HasNoShape}
use Rattle.lex.specs.Pieces as s
use Rattle.lex.proofs.pieces.Runs.{front_byte}
use Rattle.lex.proofs.pieces.Classes.{letter, slash, other, class, class_of, shape_class, slash_only, Slashed, closed, line, unclosed, fixed, other_only, front_class, classed}

-- which table a token of one spelling stands in: that of its length, or that of keywords
pub data InTable (k : Fixed) (rest : List ℕ) : Type 0 where
  single : length (spelling k) ≡ 1 → one rest ≡ Some k → InTable k rest
  double : length (spelling k) ≡ 2 → two rest ≡ Some k → InTable k rest
  triple : length (spelling k) ≡ 3 → three rest ≡ Some k → InTable k rest
  keyword : class (spelling k) ≡ letter → InTable k rest

-- a text that begins with a token of one spelling
in_table : (k : Fixed) (more : List ℕ) → InTable k (spelling k ++ more)
in_table (Keyword key.Int) more = keyword refl
in_table (Keyword key.Unsigned) more = keyword refl
in_table (Keyword key.Signed) more = keyword refl
in_table (Keyword key.Long) more = keyword refl
in_table (Keyword key.Void) more = keyword refl
in_table (Keyword key.If) more = keyword refl
in_table (Keyword key.Else) more = keyword refl
in_table (Keyword key.While) more = keyword refl
in_table (Keyword key.Do) more = keyword refl
in_table (Keyword key.For) more = keyword refl
in_table (Keyword key.Break) more = keyword refl
in_table (Keyword key.Continue) more = keyword refl
in_table (Keyword key.Return) more = keyword refl
in_table (Keyword key.Printf) more = keyword refl
in_table (Keyword key.Atomic) more = keyword refl
in_table (Keyword key.Relaxed) more = keyword refl
in_table (Keyword key.Cancel) more = keyword refl
in_table (Keyword key.Attribute) more = keyword refl
in_table (Punctuator punct.AddAssign) more = double refl refl
in_table (Punctuator punct.SubtractAssign) more = double refl refl
in_table (Punctuator punct.MultiplyAssign) more = double refl refl
in_table (Punctuator punct.DivideAssign) more = double refl refl
in_table (Punctuator punct.RemainderAssign) more = double refl refl
in_table (Punctuator punct.ShiftLeftAssign) more = triple refl refl
in_table (Punctuator punct.ShiftRightAssign) more = triple refl refl
in_table (Punctuator punct.AndAssign) more = double refl refl
in_table (Punctuator punct.OrAssign) more = double refl refl
in_table (Punctuator punct.XorAssign) more = double refl refl
in_table (Punctuator punct.Increment) more = double refl refl
in_table (Punctuator punct.Decrement) more = double refl refl
in_table (Punctuator punct.LogicalOr) more = double refl refl
in_table (Punctuator punct.LogicalAnd) more = double refl refl
in_table (Punctuator punct.Equal) more = double refl refl
in_table (Punctuator punct.NotEqual) more = double refl refl
in_table (Punctuator punct.LessEqual) more = double refl refl
in_table (Punctuator punct.GreaterEqual) more = double refl refl
in_table (Punctuator punct.ShiftLeft) more = double refl refl
in_table (Punctuator punct.ShiftRight) more = double refl refl
in_table k more = single refl refl

in_table_at : (rest : List ℕ) (n : ℕ) (k : Fixed) → take n rest ≡ spelling k → InTable k rest
in_table_at rest n k e =
    let whole : rest ≡ spelling k ++ drop n rest = sym (take-append-drop n rest) ∙ ap (λ (z : List ℕ). z ++ drop n rest) e in
    subst (InTable k) (sym whole) (in_table k (drop n rest))

-- ---- what a table gives is spelled so

pub record Spelled (rest : List ℕ) (k : Fixed) (n : ℕ) : Type 0 where
  pub within : n ≤ length rest
  pub front : take n rest ≡ spelling k

by_test : (m : Own) (w : List ℕ) (k : Fixed) (rest : Option Fixed) (t : Bool) → bytes_eq w (spelling (Punctuator m)) ≡ t → (rest ≡ Some k → w ≡ spelling k) → (if t then Some (Punctuator m) else rest) ≡ Some k → w ≡ spelling k
by_test m w k rest true h later e =
    let is : Punctuator m ≡ k = cc in
    (bytes_eq-Decides w (spelling (Punctuator m))).0 h ∙ ap spelling is
by_test m w k rest false h later e = later e

spelled_is : (ks : List Own) (w : List ℕ) (k : Fixed) → spelled_so ks w ≡ Some k → w ≡ spelling k
spelled_is [] w k e = absurd cc
spelled_is (m ∷ ms) w k e = by_test m w k (spelled_so ms w) (bytes_eq w (spelling (Punctuator m))) refl (spelled_is ms w k) e

one_spelled : (rest : List ℕ) (k : Fixed) → one rest ≡ Some k → Spelled rest k 1
one_spelled [] k e = absurd cc
one_spelled (a ∷ rest) k e = record { within = omega arith; front = spelled_is singles (a ∷ []) k e }

two_spelled : (rest : List ℕ) (k : Fixed) → two rest ≡ Some k → Spelled rest k 2
two_spelled [] k e = absurd cc
two_spelled (a ∷ []) k e = absurd cc
two_spelled (a ∷ b ∷ rest) k e = record { within = omega arith; front = spelled_is doubles (a ∷ b ∷ []) k e }

three_spelled : (rest : List ℕ) (k : Fixed) → three rest ≡ Some k → Spelled rest k 3
three_spelled [] k e = absurd cc
three_spelled (a ∷ []) k e = absurd cc
three_spelled (a ∷ b ∷ []) k e = absurd cc
three_spelled (a ∷ b ∷ c ∷ rest) k e = record { within = omega arith; front = spelled_is triples (a ∷ b ∷ c ∷ []) k e }

-- ---- the longest

some_none : {k : Fixed} (o : Option Fixed) → o ≡ Some k → o ≡ None → ⊥
some_none o e f = cc

pub data Found (rest : List ℕ) (x : Fixed × ℕ) : Type 0 where
  by_three : three rest ≡ Some x.0 → x.1 ≡ 3 → Found rest x
  by_two : three rest ≡ None → two rest ≡ Some x.0 → x.1 ≡ 2 → Found rest x
  by_one : three rest ≡ None → two rest ≡ None → one rest ≡ Some x.0 → x.1 ≡ 1 → Found rest x

pair : {k : Fixed} {n : ℕ} (x : Fixed × ℕ) → Some (k, n) ≡ Some x → (Some k ≡ Some x.0) × (x.1 ≡ n)
pair {k} {n} x e =
    let whole : ◌≡◌ {A = Fixed × ℕ} (k, n) x = cc in
    (ap (λ (y : Fixed × ℕ). Some y.0) whole, sym (ap (λ (y : Fixed × ℕ). y.1) whole))

pub found : (rest : List ℕ) (x : Fixed × ℕ) → punctuator_at rest ≡ Some x → Found rest x
found rest x e = go (three rest) refl (two rest) refl (one rest) refl e
  where
    go : (a : Option Fixed) → three rest ≡ a → (b : Option Fixed) → two rest ≡ b → (c : Option Fixed) → one rest ≡ c → with_length 3 a (with_length 2 b (with_length 1 c None)) ≡ Some x → Found rest x
    go (Some k) i b j c l e = let p = pair x e in by_three (i ∙ p.0) p.1
    go None i (Some k) j c l e = let p = pair x e in by_two i (j ∙ p.0) p.1
    go None i None j (Some k) l e = let p = pair x e in by_one i j (l ∙ p.0) p.1
    go None i None j None l e = absurd cc

pub record Missing (rest : List ℕ) : Type 0 where
  pub no_one : one rest ≡ None
  pub no_two : two rest ≡ None
  pub no_three : three rest ≡ None

pub missing : (rest : List ℕ) → punctuator_at rest ≡ None → Missing rest
missing rest e = go (three rest) refl (two rest) refl (one rest) refl e
  where
    go : (a : Option Fixed) → three rest ≡ a → (b : Option Fixed) → two rest ≡ b → (c : Option Fixed) → one rest ≡ c → with_length 3 a (with_length 2 b (with_length 1 c None)) ≡ None → Missing rest
    go (Some k) i b j c l e = absurd cc
    go None i (Some k) j c l e = absurd cc
    go None i None j (Some k) l e = absurd cc
    go None i None j None l e = record { no_one = l; no_two = j; no_three = i }

pub other_class : (rest : List ℕ) → NoOtherPiece rest → class rest ≡ (if slice_index rest 0 == 47 then slash else other)
other_class rest o =
    let first = o.white in
    let second = o.letter in
    let third = o.digit in
    let fourth : (slice_index rest 0 == 35) ≡ false = unequal (slice_index rest 0) 35 o.number in
    let fifth : (slice_index rest 0 == 34) ≡ false = unequal (slice_index rest 0) 34 o.quote in
    rw (first, second, third, fourth, fifth) refl
  where
    unequal : (a b : ℕ) → (a ≡ b → ⊥) → (a == b) ≡ false
    unequal a b h = go (a == b) refl
      where
        go : (t : Bool) → (a == b) ≡ t → t ≡ false
        go true e = absurd (h (eqb-true a b e))
        go false e = refl

two_bytes : (rest : List ℕ) (n k : ℕ) → 2 ≤ length (take n rest) → n ≤ length rest → slice_index (take n rest) 1 ≡ k → slice_index rest 1 ≡ k
two_bytes rest n k large le e =
    let size : length (take n rest) ≡ n = length-take-le n rest le in
    sym (front_byte rest n 1 (omega arith)) ∙ e

-- where nothing but a punctuator can begin, a shape is a token of one spelling
pub fixed_at : (rest : List ℕ) (n : ℕ) → NoOtherPiece rest → 0 < n → n ≤ length rest → Shape (take n rest) → (k : Fixed) × (take n rest ≡ spelling k)
fixed_at rest n o lt le x = go (slice_index rest 0 == 47) refl (front_class rest n lt x ∙ other_class rest o)
  where
    by : slice_index rest 0 ≡ 47 → Slashed (take n rest) → (k : Fixed) × (take n rest ≡ spelling k)
    by e (closed h) = absurd ((o.slash e).0 (two_bytes rest n 42 (let large = h.large in omega arith) le h.opens.1))
    by e (line h) = absurd ((o.slash e).1 (two_bytes rest n 47 h.large le h.slashes.1))
    by e (unclosed h) = absurd ((o.slash e).0 (two_bytes rest n 42 h.large le h.opens.1))
    by e (fixed k c h) = (k, h)

    go : (t : Bool) → (slice_index rest 0 == 47) ≡ t → shape_class x ≡ (if t then slash else other) → (k : Fixed) × (take n rest ≡ spelling k)
    go true e c = by (eqb-true (slice_index rest 0) 47 e) (slash_only (take n rest) x c)
    go false e c = other_only (take n rest) x c

no_letter : (rest : List ℕ) (n : ℕ) (k : Fixed) → NoOtherPiece rest → 0 < n → take n rest ≡ spelling k → class (spelling k) ≡ letter → ⊥
no_letter rest n k o lt e c = go (slice_index rest 0 == 47) (sym (other_class rest o) ∙ sym (ap class_of (front_byte rest n 0 lt)) ∙ ap class e ∙ c)
  where
    go : (t : Bool) → (if t then slash else other) ≡ letter → ⊥
    go true e = cc
    go false e = cc

pub punctuator_longest : (rest : List ℕ) (x : Fixed × ℕ) → NoOtherPiece rest → Found rest x → Longest rest x.1
punctuator_longest rest x o f = record {
  within = (spelled f).within;
  shaped = s.fixed x.0 (spelled f).front;
  longest = λ n le h. go n le h;
}
  where
    spelled : Found rest x → Spelled rest x.0 x.1
    spelled (by_three e l) = subst (Spelled rest x.0) (sym l) (three_spelled rest x.0 e)
    spelled (by_two a e l) = subst (Spelled rest x.0) (sym l) (two_spelled rest x.0 e)
    spelled (by_one a b e l) = subst (Spelled rest x.0) (sym l) (one_spelled rest x.0 e)

    by : (n : ℕ) (k : Fixed) → 0 < n → n ≤ length rest → take n rest ≡ spelling k → InTable k rest → Found rest x → n ≤ x.1
    by n k lt le e (keyword c) f = absurd (no_letter rest n k o lt e c)
    by n k lt le e (single l h) f = one_more f
      where
        size : n ≡ 1
        size = sym (length-take-le n rest le) ∙ ap (λ (z : List ℕ). length z) e ∙ l

        one_more : Found rest x → n ≤ x.1
        one_more (by_three a j) = let q : n ≡ 1 = size in omega arith
        one_more (by_two a b j) = let q : n ≡ 1 = size in omega arith
        one_more (by_one a b c j) = let q : n ≡ 1 = size in omega arith
    by n k lt le e (double l h) f = two_more f
      where
        size : n ≡ 2
        size = sym (length-take-le n rest le) ∙ ap (λ (z : List ℕ). length z) e ∙ l

        two_more : Found rest x → n ≤ x.1
        two_more (by_three a j) = let q : n ≡ 2 = size in omega arith
        two_more (by_two a b j) = let q : n ≡ 2 = size in omega arith
        two_more (by_one a b c j) = absurd (some_none (two rest) h b)
    by n k lt le e (triple l h) f = three_more f
      where
        size : n ≡ 3
        size = sym (length-take-le n rest le) ∙ ap (λ (z : List ℕ). length z) e ∙ l

        three_more : Found rest x → n ≤ x.1
        three_more (by_three a j) = let q : n ≡ 3 = size in omega arith
        three_more (by_two a b j) = absurd (some_none (three rest) h a)
        three_more (by_one a b c j) = absurd (some_none (three rest) h a)

    go : (n : ℕ) → n ≤ length rest → Shape (take n rest) → n ≤ x.1
    go zero le h = omega arith
    go (suc n) le h = let k = fixed_at rest (suc n) o (omega arith) le h in by (suc n) k.0 (omega arith) le k.1 (in_table_at rest (suc n) k.0 k.1) f

pub punctuator_says : (rest : List ℕ) (x : Fixed × ℕ) → Found rest x → take x.1 rest ≡ spelling x.0
punctuator_says rest x (by_three e l) = ap (λ (n : ℕ). take n rest) l ∙ (three_spelled rest x.0 e).front
punctuator_says rest x (by_two a e l) = ap (λ (n : ℕ). take n rest) l ∙ (two_spelled rest x.0 e).front
punctuator_says rest x (by_one a b e l) = ap (λ (n : ℕ). take n rest) l ∙ (one_spelled rest x.0 e).front

-- no shape is empty
pub empty_shape : Shape [] → ⊥
empty_shape x = by (other_only [] x (sym (classed x)))
  where
    go : (k : Fixed) → [] ≡ spelling k → InTable k [] → ⊥
    go k e (single l h) = cc
    go k e (double l h) = cc
    go k e (triple l h) = cc
    go k e (keyword c) = let f : other ≡ letter = ap class e ∙ c in cc

    by : (k : Fixed) × ([] ≡ spelling k) → ⊥
    by p = go p.0 p.1 (in_table_at [] 0 p.0 p.1)

pub strange : (rest : List ℕ) → NoOtherPiece rest → Missing rest → HasNoShape rest
strange rest o q zero le x = empty_shape x
strange rest o q (suc n) le x = let k = fixed_at rest (suc n) o (omega arith) le x in by k.0 k.1 (in_table_at rest (suc n) k.0 k.1)
  where
    by : (k : Fixed) → take (suc n) rest ≡ spelling k → InTable k rest → ⊥
    by k e (keyword c) = no_letter rest (suc n) k o (omega arith) e c
    by k e (single l h) = some_none (one rest) h q.no_one
    by k e (double l h) = some_none (two rest) h q.no_two
    by k e (triple l h) = some_none (three rest) h q.no_three
