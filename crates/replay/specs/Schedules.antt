-- Schedules as text.
use Rattle.std.specs.Prelude.{◌≡◌, ◌+◌, ◌^◌, ◌<◌, ◌≤◌, ◌⊎◌, ℕ, Bool, true, false, List, [], ◌∷◌, ◌++◌, codes, length}
use Rattle.std.specs.List.{AllByRecursion}
use Rattle.std.specs.Str.Parse.{IsNumeral, digits_value}
use Rattle.replay.specs.declared.line.Line.{Line}
use Rattle.replay.specs.declared.line.TheConstants.{MOST_STEPS}
use Rattle.replay.specs.declared.schedule.ScheduleFault.{ScheduleFault}
use Rattle.replay.specs.declared.schedule.ScheduleFault.TheVariants.{OutOfMemory, BadLine, TooLong}

-- only spaces
abbrev pub AreSpaces : List ℕ → Type 0
AreSpaces row = AllByRecursion (λ b. b ≡ 32) row

-- decimal digits that write this number, which is below 2 ^ 32
abbrev pub SpellsNumber : List ℕ → ℕ → Type 0
SpellsNumber digits n = IsNumeral 10 digits × (digits_value 10 digits ≡ n) × (n < 2 ^ 32)

-- the letter before a count, by whether it counts accesses
abbrev pub letter : Bool → List ℕ
letter true = codes "a"
letter false = []

-- A row requests steps: a thread's number, spaces, and a count, which an `a` makes one of accesses. Spaces may surround
-- the two.
pub record Asks (row : List ℕ) (line : Line) : Type 0 where
  pub before : List ℕ
  pub thread : List ℕ
  pub between : List ℕ
  pub count : List ℕ
  pub after : List ℕ
  pub row_is : row ≡ before ++ (thread ++ (between ++ (letter line.accesses ++ (count ++ after))))
  pub spaces : AreSpaces before × AreSpaces between × AreSpaces after
  pub apart : 0 < length between
  pub thread_is : SpellsNumber thread line.thread
  pub count_is : SpellsNumber count line.count

-- the lines of rows, of which rows of only spaces have none
abbrev pub AreRows : List (List ℕ) → List Line → Type 0
AreRows [] found = found ≡ []
AreRows (row ∷ rows) found = (AreSpaces row × AreRows rows found)
    ⊎ ((line : Line) × (rest : List Line) × (found ≡ line ∷ rest) × Asks row line × AreRows rows rest)

-- the sum of the counts of lines
abbrev pub counts : List Line → ℕ
counts [] = 0
counts (line ∷ found) = line.count + counts found

-- rows are a schedule of these lines: their counts are not too many
abbrev pub AreLines : List (List ℕ) → List Line → Type 0
AreLines rows found = AreRows rows found × (counts found ≤ MOST_STEPS)

-- a row is neither blank nor a line
abbrev pub IsBad : List ℕ → Type 0
IsBad row = (AreSpaces row → ⊥) × ((line : Line) → Asks row line → ⊥)

-- a row and its index, from 0 on, if the rows before it are a schedule of these lines
pub record ReadsTo (rows : List (List ℕ)) (row : List ℕ) (at : ℕ) (found : List Line) : Type 0 where
  pub before : List (List ℕ)
  pub after : List (List ℕ)
  pub place : rows ≡ before ++ row ∷ after
  pub number : length before ≡ at
  pub read : AreLines before found

-- the fault of rows, by the first one that is bad or requests too many steps
abbrev pub IsFaultOfRows : List (List ℕ) → ScheduleFault → Type 0
IsFaultOfRows rows OutOfMemory = Unit {0}
IsFaultOfRows rows (BadLine n) =
    (row : List ℕ) × (at : ℕ) × (found : List Line) × ReadsTo rows row at found × (n ≡ at + 1) × IsBad row
IsFaultOfRows rows TooLong =
    (row : List ℕ) × (at : ℕ) × (found : List Line) × (line : Line) × ReadsTo rows row at found × Asks row line
    × (MOST_STEPS < counts found + line.count)

abbrev pub fault_number : ScheduleFault → ℕ
fault_number OutOfMemory = 0
fault_number (BadLine n) = 80
fault_number TooLong = 81
