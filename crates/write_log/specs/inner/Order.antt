-- Where a list of writes has its pairs, by cell.
use Rattle.std.specs.Prelude.{◌≡◌, ◌<◌, ◌≤◌, ◌^◌, ◌+◌, ℕ, List, [], ◌∷◌, ◌++◌, length, Option, None, Some}
use Rattle.std.specs.Prelude.{Result, Ok, Err, slice_index_or}
use Rattle.write_log.specs.Overlay.{Lacks}

-- the pairs, and for how many more there is room
pub record Listed : Type 0 where
  pub pairs : List (ℕ × ℕ)
  pub room : ℕ

-- the list has a pair of this cell at this index
abbrev pub IsPlace : ℕ → List (ℕ × ℕ) → ℕ → Type 0
IsPlace a ps i = (i < length ps) × ((slice_index_or ps i (0, 0)).0 ≡ a)

-- the index of a cell's pair, or none if no pair has it
abbrev pub IsFound : ℕ → List (ℕ × ℕ) → Option ℕ → Type 0
IsFound a ps None = Lacks a ps
IsFound a ps (Some i) = IsPlace a ps i

-- the cells rise
abbrev pub IsRising : List (ℕ × ℕ) → Type 0
IsRising order = (i j : ℕ) → i < j → j < length order →
    (slice_index_or order i (0, 0)).0 < (slice_index_or order j (0, 0)).0

-- an order has (cell, index) of each pair, by cell
pub record IsOrderOf (pairs order : List (ℕ × ℕ)) : Type 0 where
  pub rising : IsRising order
  pub length_is : length order ≡ length pairs
  pub here : (k : ℕ) → k < length order →
      IsPlace (slice_index_or order k (0, 0)).0 pairs (slice_index_or order k (0, 0)).1
  pub there : (i : ℕ) → i < length pairs → (k : ℕ) × (k < length order) × ((slice_index_or order k (0, 0)).1 ≡ i)

-- an order is kept, or none, where the cells rise in the list
abbrev pub AreOrdered : List (ℕ × ℕ) → List (ℕ × ℕ) → Type 0
AreOrdered ps [] = IsRising ps
AreOrdered ps (e ∷ es) = IsOrderOf ps (e ∷ es)

-- what stands by cell: the pairs themselves where no order is kept
abbrev pub by_cell : List (ℕ × ℕ) → List (ℕ × ℕ) → List (ℕ × ℕ)
by_cell ps [] = ps
by_cell ps (e ∷ es) = e ∷ es

-- an order with one entry more, where one is kept
abbrev pub with_entry : List (ℕ × ℕ) → ℕ × ℕ → List (ℕ × ℕ)
with_entry [] entry = []
with_entry (e ∷ es) entry = e ∷ es ++ entry ∷ []

-- an order has (cell, index) of each pair, by index
abbrev pub IsNumbered : List (ℕ × ℕ) → List (ℕ × ℕ) → Type 0
IsNumbered ps order = (length order ≡ length ps)
    × ((k : ℕ) → k < length ps → slice_index_or order k (0, 0) ≡ ((slice_index_or ps k (0, 0)).0, k))

-- no cell lies below the one bound, nor from the other on
abbrev pub AreBetween : ℕ → ℕ → List (ℕ × ℕ) → Type 0
AreBetween least above ps = (i : ℕ) → i < length ps →
    (least ≤ (slice_index_or ps i (0, 0)).0) × ((slice_index_or ps i (0, 0)).0 < above)

-- a cell is above those of all pairs
abbrev pub IsAbove : ℕ → List (ℕ × ℕ) → Type 0
IsAbove a ps = (i : ℕ) → i < length ps → (slice_index_or ps i (0, 0)).0 < a

-- where an order has a cell, or where it would be inserted
abbrev pub IsSearched : ℕ → List (ℕ × ℕ) → Result ℕ ℕ → Type 0
IsSearched a order (Ok k) = (k < length order) × ((slice_index_or order k (0, 0)).0 ≡ a)
IsSearched a order (Err k) = (k ≤ length order)
    × ((j : ℕ) → j < k → (slice_index_or order j (0, 0)).0 < a)
    × ((j : ℕ) → k ≤ j → j < length order → a < (slice_index_or order j (0, 0)).0)

-- the index of a cell's pair, or where the cell would be inserted by cell
abbrev pub IsIndexed : ℕ → List (ℕ × ℕ) → List (ℕ × ℕ) → Result ℕ ℕ → Type 0
IsIndexed a ps order (Ok i) = IsPlace a ps i
IsIndexed a ps order (Err k) = IsSearched a (by_cell ps order) (Err k)

-- so many more looks at most: the binary digits of n, which are the fewest twos whose product is above n
abbrev pub IsWithinDigits : ℕ → ℕ → ℕ → Type 0
IsWithinDigits n old new = (digits : ℕ) → n < 2 ^ digits → new ≤ old + digits
