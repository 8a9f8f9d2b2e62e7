-- The bounds of cells, one global after another.
use Rattle.std.proofs.Common.{◌≡◌, ◌∙◌, ℕ, zero, suc, ◌+◌, ◌-◌, ◌<◌, ◌≤◌, List, ◌∷◌, ◌++◌, length, get_or, drop, map, replicate, sym, refl, ap, arith}
use Rattle.std.specs.Prelude.{slice_index}
use Rattle.std.proofs.lemmas.List.{at_drop_more}
use Rattle.syntax.specs.Tree.{Scalar, Global}
use Rattle.syntax.specs.Numbers.{modulus}
use Rattle.syntax.specs.Names.{cells, cell_types, bounds_of}

-- a global's own cells come first, and the others' behind them
pub own_bound : (t : Scalar) (n a : ℕ) (ts : List Scalar) → a < n → slice_index (map modulus (replicate n t ++ ts)) a ≡ modulus t
own_bound t zero a ts h = absurd (omega (arith, h))
own_bound t (suc n) zero ts h = refl
own_bound t (suc n) (suc a) ts h = own_bound t n a ts (omega (arith, h))

pub further_bound : (t : Scalar) (n a : ℕ) (ts : List Scalar) → n ≤ a → slice_index (map modulus ts) (a - n) ≡ slice_index (map modulus (replicate n t ++ ts)) a
further_bound t zero a ts h = let same : a - 0 ≡ a = omega arith in ap (slice_index (map modulus ts)) same
further_bound t (suc n) zero ts h = absurd (omega (arith, h))
further_bound t (suc n) (suc a) ts h = let same : suc a - suc n ≡ a - n = omega arith in ap (slice_index (map modulus ts)) same ∙ further_bound t n a ts (omega (arith, h))

pub further_within : (t : Scalar) (n a : ℕ) (ts : List Scalar) → n ≤ a → a < length (map modulus (replicate n t ++ ts)) → a - n < length (map modulus ts)
further_within t zero a ts h k = omega (arith, k)
further_within t (suc n) zero ts h k = absurd (omega (arith, h))
further_within t (suc n) (suc a) ts h k = let r = further_within t n a ts (omega (arith, h)) (omega (arith, k)) in omega (arith, r)

-- the bounds from a global on: those of its cells, and the others
pub bounds_from : {X : Type 0} (f : X → Global) (xs : List X) (i : ℕ) (x : X) → i < length xs → x ≡ get_or xs i x → bounds_of (map f (drop i xs)) ≡ map modulus (replicate (cells (f x)) (f x).ty ++ cell_types (map f (drop (i + 1) xs)))
bounds_from f xs i x lt e = at_drop_more (λ ys. bounds_of (map f ys)) xs i x lt ∙ ap (λ y. bounds_of (map f (y ∷ drop (i + 1) xs))) (sym e)
