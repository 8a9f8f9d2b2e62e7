-- The knowledge of a seat: a part for each thread that it represents.
use Rattle.std.specs.Prelude.{◌≡◌, ◌⊎◌, ℕ, zero, suc, ◌+◌, ◌==◌, if◌then◌else◌, List, [], ◌∷◌, length}
use Rattle.bytecode.specs.Code.{Configuration}
use Rattle.machine.specs.Answered.{Heard}
use Rattle.machine.specs.Worlds.{Part, new_part}
use Rattle.bytecode.specs.Beginning.{beginning}
use Rattle.shared_words.specs.Setup.{Setup}

-- The machine's part of the thread as of the seat's last access, the responses so far, and a floor: a lock value that
-- no response after the first floor_at of them is below. The seat has seen all steps of all threads up to its last
-- access, in the order in which they were made; a thread's local steps count as made with its next access. The field
-- made counts those of the thread itself. The setup is the table's key, which a step's promise cannot read.
pub record ViewPart : Type 0 where
  pub setup : Setup
  pub number : ℕ
  pub part : Part Configuration
  pub heard : List Heard
  pub floor : ℕ
  pub floor_at : ℕ
  pub seen : List ℕ
  pub made : ℕ

abbrev pub Views : Type 0
Views = List (List ViewPart)

-- how many parts of the thread with this number there are
abbrev pub parts_of : ℕ → List ViewPart → ℕ
parts_of number [] = 0
parts_of number (p ∷ ps) = (if p.number == number then 1 else 0) + parts_of number ps

abbrev pub parts_in : ℕ → Views → ℕ
parts_in number [] = 0
parts_in number (v ∷ vs) = parts_of number v + parts_in number vs

abbrev pub Among : ViewPart → List ViewPart → Type 0
Among p [] = ⊥
Among p (q ∷ qs) = (p ≡ q) ⊎ Among p qs

abbrev pub first_of : List ViewPart → List ViewPart
first_of [] = []
first_of (p ∷ ps) = p ∷ []

abbrev pub without_first : List ViewPart → List ViewPart
without_first [] = []
without_first (p ∷ ps) = ps

-- a thread at its beginning
abbrev pub first_part : Setup → ℕ → ViewPart
first_part key number = record {
  setup = key;
  number = number;
  part = new_part (beginning key.code number);
  heard = [];
  floor = 0;
  floor_at = 0;
  seen = [];
  made = 0;
}

abbrev pub first_parts : Setup → ℕ → ℕ → List ViewPart
first_parts key from zero = []
first_parts key from (suc count) = first_part key from ∷ first_parts key (suc from) count

-- the knowledge of the first seat: all threads at their beginning
abbrev pub first_view : Setup → List ViewPart
first_view key = first_parts key 0 key.threads

-- from now on no response has a lock value below n, and these steps were made
abbrev pub with_floor : ℕ → List ℕ → ViewPart → ViewPart
with_floor n ts p = record p { floor = n; floor_at = length p.heard; seen = ts }
