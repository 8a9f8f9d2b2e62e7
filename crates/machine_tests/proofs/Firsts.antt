-- The bounds of the cells of a code's first global: a word of 32 bits is below each.
use Rattle.std.proofs.Common.{◌≡◌, ℕ, zero, suc, ◌<◌, ◌≤◌, ◌^◌, List, [], ◌∷◌, ◌++◌, Some, subst, arith}
use Rattle.std.specs.Prelude.{slice_get, slice_index, map, replicate}
use Rattle.lex.specs.declared.token.Scalar.{Scalar}
use Rattle.lex.specs.declared.token.Scalar.TheVariants.{Int, Unsigned, LongLong}
use Rattle.syntax.specs.Tree.{Global}
use Rattle.syntax.specs.Numbers.{modulus}
use Rattle.syntax.specs.Names.{cells, cell_types, bounds_of}

type_bound : (t : Scalar) → 2 ^ 32 ≤ modulus t
type_bound Int = omega arith
type_bound Unsigned = omega arith
type_bound LongLong = omega arith

bound_in : (n a : ℕ) (t : Scalar) (rest : List Scalar) → a < n → 2 ^ 32 ≤ slice_index (map modulus (replicate n t ++ rest)) a
bound_in zero a t rest h = absurd (omega (arith, h))
bound_in (suc n) zero t rest h = type_bound t
bound_in (suc n) (suc a) t rest h = bound_in n a t rest (omega (arith, h))

pub first_has : {X : Type 0} (f : X → Global) (xs : List X) (x : X) (a : ℕ) → Some x ≡ slice_get xs 0 → a < cells (f x) → 2 ^ 32 ≤ slice_index (bounds_of (map f xs)) a
first_has f [] x a e h = absurd (cc e)
first_has f (y ∷ ys) x a e h = bound_in (cells (f y)) a (f y).ty (cell_types (map f ys)) (subst (λ z. a < cells (f z)) (cc e) h)
