-- How a row is split.
use Rattle.std.specs.Prelude.{◌≡◌, ℕ, Bool, false, ◌&&◌, ◌==◌, if◌then◌else◌, nat_le, nat_lt, List, [], ◌∷◌, length}
use Rattle.std.specs.Prelude.{take, drop}
use Rattle.std.specs.List.{prefix_len}
use Rattle.replay.specs.Schedules.{AreSpaces, Asks, IsBad}
use Rattle.replay.specs.declared.row.ScheduleRow.{ScheduleRow}
use Rattle.replay.specs.declared.row.ScheduleRow.TheVariants.{Blank, Steps, Bad}

abbrev pub is_space : ℕ → Bool
is_space b = b == 32

abbrev pub is_digit : ℕ → Bool
is_digit b = nat_le 48 b && nat_le b 57

-- the rest after the spaces at the front
abbrev pub past : List ℕ → List ℕ
past row = drop (prefix_len is_space row) row

-- the digits at the front
abbrev pub digits_of : List ℕ → List ℕ
digits_of row = take (prefix_len is_digit row) row

-- the rest after the digits at the front
abbrev pub behind : List ℕ → List ℕ
behind row = drop (prefix_len is_digit row) row

-- whether there is an `a` at the front
abbrev pub has_letter : List ℕ → Bool
has_letter [] = false
has_letter (b ∷ row) = b == 97

-- the rest after an `a` at the front
abbrev pub behind_letter : List ℕ → List ℕ
behind_letter row = if has_letter row then drop 1 row else row

-- a row after it is split
pub record IsCut (row thread : List ℕ) (apart accesses : Bool) (count over : List ℕ) : Type 0 where
  pub thread_is : thread ≡ digits_of (past row)
  pub apart_is : apart ≡ nat_lt (length (past (behind (past row)))) (length (behind (past row)))
  pub accesses_is : accesses ≡ has_letter (past (behind (past row)))
  pub count_is : count ≡ digits_of (behind_letter (past (behind (past row))))
  pub over_is : over ≡ past (behind (behind_letter (past (behind (past row)))))

-- the meaning of a row
abbrev pub IsRow : List ℕ → ScheduleRow → Type 0
IsRow row Blank = AreSpaces row
IsRow row (Steps line) = Asks row line
IsRow row Bad = IsBad row
