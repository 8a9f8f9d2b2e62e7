-- The invariants of the search for callers.
use Rattle.std.specs.Prelude.{◌≡◌, ℕ, ◌<◌, ◌≤◌, List, length, Bool, true, false, Contains, count_by, slice_index_or}
use Rattle.safety.specs.inner.Graphs.{callers_at, IsReached, SearchState}

-- callers are numbers of the graph
abbrev pub IsWithin : List (List ℕ) → Type 0
IsWithin callers = (j i : ℕ) → Contains (callers_at callers j) i → i < length callers

abbrev pub IsMember : List Bool → ℕ → Type 0
IsMember members i = slice_index_or members i false ≡ true

-- the members are the numbers in the queue, once each, all of them reachable
pub record IsQueued (callers : List (List ℕ)) (s : SearchState) : Type 0 where
  pub same : length s.members ≡ length callers
  pub count : length s.queue ≡ count_by (λ b. b) s.members
  pub queued : (i : ℕ) → IsMember s.members i → Contains s.queue i
  pub member : (i : ℕ) → Contains s.queue i → IsMember s.members i
  pub reached : (i : ℕ) → Contains s.queue i → IsReached callers i

-- the callers of the first ones in the queue are members
pub record IsClosing (callers : List (List ℕ)) (at : ℕ) (s : SearchState) : Type 0 where
  pub known : IsQueued callers s
  pub begun : IsMember s.members 0
  pub passed : at ≤ length s.queue
  pub done : (k i : ℕ) → k < at → Contains (callers_at callers (slice_index_or s.queue k 0)) i → IsMember s.members i

-- the members are the reachable numbers
pub record IsClosed (callers : List (List ℕ)) (members : List Bool) : Type 0 where
  pub begun : IsMember members 0
  pub closed : (j i : ℕ) → IsMember members j → Contains (callers_at callers j) i → IsMember members i
  pub reached : (i : ℕ) → IsMember members i → IsReached callers i
