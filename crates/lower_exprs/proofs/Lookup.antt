-- Look-ups among locals.
use Rattle.std.proofs.Common.{◌≡◌, ℕ, ◌+◌, List, [], ◌∷◌, map, Some, None, refl, ap, bytes_eq, if◌then◌else◌}
use Rattle.std.specs.Option.{option_or}
use Rattle.lex.specs.declared.token.Scalar.{Scalar}
use Rattle.name_tables.specs.Named as Named
use Rattle.syntax.specs.Names as Names
use Rattle.lower_exprs.specs.Views.{local_in}

-- the newest declaration of a name is the newest local
newest_from_in : (i : ℕ) (ls : List (List ℕ × Scalar)) (x : List ℕ) → Named.newest_from i ls x ≡ Names.newest_from i (map local_in ls) x
newest_from_in i [] x = refl
newest_from_in i (l ∷ ls) x = ap (λ o. option_or o (if bytes_eq l.0 x then Some (i, l.1) else None)) (newest_from_in (i + 1) ls x)

pub newest_in : (ls : List (List ℕ × Scalar)) (x : List ℕ) → Named.newest ls x ≡ Names.newest (map local_in ls) x
newest_in ls x = newest_from_in 0 ls x
