-- Lists of names with what they denote, in order of declaration. In c = 5, d = 7, c = 9 the first c is 5, at index
-- 0, and the newest is 9, at index 2.
use Rattle.std.specs.Prelude.{ℕ, ◌+◌, List, [], ◌∷◌, ◌++◌, map, position, Option, Some, None, is_some, bytes_eq}
use Rattle.std.specs.Prelude.{if◌then◌else◌}
use Rattle.std.specs.Option.{option_or}

module _ {V : Type 0} where
  -- what a name was first declared as
  abbrev pub first : List (List ℕ × V) → List ℕ → Option V
  first [] x = None
  first (e ∷ es) x = if bytes_eq e.0 x then Some e.1 else first es x

  -- the index of a name's first declaration, from 0
  abbrev pub first_index : List (List ℕ × V) → List ℕ → Option ℕ
  first_index es x = position (λ n. bytes_eq x n) (map (λ e. e.0) es)

  -- one more declaration: a name keeps what it was first declared as, and a new one goes last
  abbrev pub with_declaration : List (List ℕ × V) → List ℕ → V → List (List ℕ × V)
  with_declaration es x v = if is_some (first es x) then es else es ++ (x, v) ∷ []

  -- the newest declaration of a name, by its index and its value: a later one hides an earlier one (C11 6.2.1)
  abbrev pub newest_from : ℕ → List (List ℕ × V) → List ℕ → Option (ℕ × V)
  newest_from i [] x = None
  newest_from i (l ∷ ls) x = option_or (newest_from (i + 1) ls x) (if bytes_eq l.0 x then Some (i, l.1) else None)

  abbrev pub newest : List (List ℕ × V) → List ℕ → Option (ℕ × V)
  newest ls x = newest_from 0 ls x
