-- Floors of all threads that a seat represents.
use Rattle.std.specs.Prelude.{ℕ, List, [], ◌∷◌, ◌≡◌}
use Rattle.shared_words.specs.Views.{ViewPart, with_floor, Among}
use Rattle.shared_words.specs.Rule.{SeatView, MayBeFloor}

abbrev pub all_floored : ℕ → List ℕ → List ViewPart → List ViewPart
all_floored n ts [] = []
all_floored n ts (p ∷ ps) = with_floor n ts p ∷ all_floored n ts ps

-- a load of the lock, which found n after these steps, is the floor of all threads that the seat represents
abbrev pub Floored : SeatView → ℕ → SeatView → Type 0
Floored m n w =
    (ts : List ℕ) × (w.1 ≡ m.1) × (w.0 ≡ all_floored n ts m.0)
    × ((p : ViewPart) → Among p m.0 → MayBeFloor n ts p)
