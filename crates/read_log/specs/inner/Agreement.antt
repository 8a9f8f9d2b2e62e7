-- When a memory still has what the first entries of a read log found.
use Rattle.std.specs.Prelude.{◌≡◌, ◌<◌, ℕ, List, Some, slice_index}
use Rattle.std.specs.List.{slice_get}

-- each of the first n entries is what the memory has
abbrev pub AgreesBelow : ℕ → List ℕ → List (ℕ × ℕ) → Type 0
AgreesBelow n memory reads = (i : ℕ) (p : ℕ × ℕ) → i < n → slice_get reads i ≡ Some p → slice_index memory p.0 ≡ p.1
