-- Memories of a code: their lengths, their words, and what a write leaves.
use Rattle.std.proofs.Common.{◌≡◌, ◌∙◌, ◌+◌, ◌≤◌, ◌<◌, ◌^◌, ℕ, zero, suc, List, [], ◌∷◌, ◌++◌, sym, ap, length, map, take, drop, get_or, refl, slice_index, arith}
use Rattle.std.specs.Prelude.{slice_set, replicate, EachIndex}
use Rattle.std.proofs.lemmas.List.{at_drop_more, drop_all}
use Rattle.syntax.specs.Behaviours.{IsMemory}
use Rattle.syntax.specs.Tree.{Scalar, Int, Unsigned, LongLong, Global}
use Rattle.syntax.specs.Names.{cells, cell_types, bounds_of}
use Rattle.syntax.specs.Numbers.{modulus}

-- a memory has a word for each cell
pub sized : (bounds m : List ℕ) → IsMemory bounds m → length m ≡ length bounds
sized [] [] is = refl
sized [] (w ∷ m) is = absurd is
sized (b ∷ bounds) [] is = absurd is
sized (b ∷ bounds) (w ∷ m) is = ap suc (sized bounds m is.1)

pub written : (bounds m : List ℕ) (a v : ℕ) → IsMemory bounds m → v < slice_index bounds a → IsMemory bounds (slice_set m a v)
written [] [] a v is lt = is
written [] (w ∷ m) a v is lt = absurd is
written (b ∷ bounds) [] a v is lt = absurd is
written (b ∷ bounds) (w ∷ m) zero v is lt = (lt, is.1)
written (b ∷ bounds) (w ∷ m) (suc a) v is lt = (is.0, written bounds m a v is.1 lt)

-- a word of a memory fits a register
type_fits : (t : Scalar) → modulus t ≤ 2 ^ 64
type_fits Int = omega arith
type_fits Unsigned = omega arith
type_fits LongLong = omega arith

pub word_at : (ts : List Scalar) (m : List ℕ) (a : ℕ) → IsMemory (map modulus ts) m → slice_index m a < 2 ^ 64
word_at [] [] a is = omega arith
word_at [] (w ∷ m) a is = absurd is
word_at (t ∷ ts) [] a is = absurd is
word_at (t ∷ ts) (w ∷ m) zero is = let b = type_fits t in let h = is.0 in omega (arith, h, b)
word_at (t ∷ ts) (w ∷ m) (suc a) is = word_at ts m a is.1

-- cells of one type, and others behind them
pub cells_before : (t : Scalar) (n : ℕ) (ts : List Scalar) (m : List ℕ) → n ≤ length m → EachIndex (take n m) (λ i. slice_index (take n m) i < modulus t) → IsMemory (map modulus ts) (drop n m) → IsMemory (map modulus (replicate n t ++ ts)) m
cells_before t zero ts m le each is = is
cells_before t (suc n) ts [] le each is = absurd (omega (arith, le))
cells_before t (suc n) ts (w ∷ m) le each is = (each 0 (omega arith), cells_before t n ts m (omega (arith, le)) (λ i lt. each (suc i) (omega (arith, lt))) is)

one_more : (w : ℕ) (m : List ℕ) (b : ℕ) → w < b → EachIndex m (λ i. slice_index m i < b) → EachIndex (w ∷ m) (λ i. slice_index (w ∷ m) i < b)
one_more w m b h each zero lt = h
one_more w m b h each (suc i) lt = each i (omega (arith, lt))

pub each_before : (t : Scalar) (n : ℕ) (ts : List Scalar) (m : List ℕ) → IsMemory (map modulus (replicate n t ++ ts)) m → EachIndex (take n m) (λ i. slice_index (take n m) i < modulus t)
each_before t zero ts m is = λ i lt. absurd (omega (arith, lt))
each_before t (suc n) ts [] is = absurd is
each_before t (suc n) ts (w ∷ m) is = one_more w (take n m) (modulus t) is.0 (each_before t n ts m is.1)

pub all_behind : (t : Scalar) (n : ℕ) (ts : List Scalar) (m : List ℕ) → IsMemory (map modulus (replicate n t ++ ts)) m → (n ≤ length m) × IsMemory (map modulus ts) (drop n m)
all_behind t zero ts m is = (omega arith, is)
all_behind t (suc n) ts [] is = absurd is
all_behind t (suc n) ts (w ∷ m) is = let h = all_behind t n ts m is.1 in let le = h.0 in (omega (arith, le), h.1)

-- from the end of the globals on there are no bounds
pub no_bounds : {X : Type 0} (f : X → Global) (xs : List X) (i : ℕ) → length xs ≤ i → bounds_of (map f (drop i xs)) ≡ []
no_bounds f xs i le = ap (λ ys. bounds_of (map f ys)) (drop_all i xs le)

-- no cell is left where no word is
pub none_left : (n : ℕ) (m : List ℕ) → n ≡ length m → IsMemory [] (drop n m)
none_left zero [] e = tt
none_left zero (w ∷ m) e = absurd (omega (arith, e))
none_left (suc n) [] e = absurd (omega (arith, e))
none_left (suc n) (w ∷ m) e = none_left n m (omega (arith, e))

pub none_over : (n : ℕ) (m : List ℕ) → n ≤ length m → IsMemory [] (drop n m) → n ≡ length m
none_over zero [] le is = refl
none_over zero (w ∷ m) le is = absurd is
none_over (suc n) [] le is = absurd (omega (arith, le))
none_over (suc n) (w ∷ m) le is = ap suc (none_over n m (omega (arith, le)) is)
