-- Functions by number, with the numbers of their callers.
use Rattle.std.specs.Prelude.{◌≡◌, ℕ, ◌<◌, List, [], ◌∷◌, ◌++◌, length, Option, Some, None, Bool, true, if◌then◌else◌}
use Rattle.std.specs.Prelude.{Contains, slice_index_or, slice_set}
use Rattle.safety.specs.Links.{Link}

-- numbers are above 0 and distinguish names; number 0 denotes what is in the set unconditionally
pub record IsNumbered (numbers : List ℕ → Option ℕ) (callers : List (List ℕ)) : Type 0 where
  pub begun : 0 < length callers
  pub within : (x : List ℕ) (k : ℕ) → numbers x ≡ Some k → (0 < k) × (k < length callers)
  pub distinct : (x y : List ℕ) (k : ℕ) → numbers x ≡ Some k → numbers y ≡ Some k → x ≡ y

abbrev pub IsNumber : (List ℕ → Option ℕ) → Option (List ℕ) → ℕ → Type 0
IsNumber numbers None j = j ≡ 0
IsNumber numbers (Some x) j = numbers x ≡ Some j

-- the numbers of a link
abbrev pub IsEdge : (List ℕ → Option ℕ) → Link → ℕ → ℕ → Type 0
IsEdge numbers l j i = IsNumber numbers l.callee j × (numbers l.caller ≡ Some i)

abbrev pub callers_at : List (List ℕ) → ℕ → List ℕ
callers_at callers j = slice_index_or callers j []

-- each link is an edge, and each edge comes from a link
pub record HasLinks (links : List Link) (numbers : List ℕ → Option ℕ) (callers : List (List ℕ)) : Type 0 where
  pub complete : (l : Link) → Contains links l →
      (j : ℕ) × (i : ℕ) × IsEdge numbers l j i × Contains (callers_at callers j) i
  pub sound : (j i : ℕ) → Contains (callers_at callers j) i → (l : Link) × Contains links l × IsEdge numbers l j i

-- further names may have numbers
abbrev pub ExtendsMap : (List ℕ → Option ℕ) → (List ℕ → Option ℕ) → Type 0
ExtendsMap old new = (x : List ℕ) (k : ℕ) → old x ≡ Some k → new x ≡ Some k

-- a path from 0 to a number, by its nodes in reverse
abbrev pub IsWay : List (List ℕ) → List ℕ → ℕ → Type 0
IsWay callers [] i = i ≡ 0
IsWay callers (j ∷ js) i = Contains (callers_at callers j) i × IsWay callers js j

abbrev pub IsReached : List (List ℕ) → ℕ → Type 0
IsReached callers i = (js : List ℕ) × IsWay callers js i

-- which numbers are members, and the queue of those whose callers are still to be added
pub record SearchState : Type 0 where
  pub members : List Bool
  pub queue : List ℕ

-- adds a number to the set and the queue, if it was no member yet
abbrev pub enqueue : SearchState → ℕ → SearchState
enqueue s i =
    if slice_index_or s.members i true then s
    else record { members = slice_set s.members i true; queue = s.queue ++ i ∷ [] }

abbrev pub all_visited : SearchState → List ℕ → SearchState
all_visited s [] = s
all_visited s (i ∷ is) = all_visited (enqueue s i) is
