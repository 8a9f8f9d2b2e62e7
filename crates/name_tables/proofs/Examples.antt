-- Worked examples of the definitions: c = 5, d = 7, and c = 9.
use Rattle.std.proofs.Common.{◌≡◌, ℕ, List, [], ◌∷◌, codes, Some, None, refl}
use Rattle.name_tables.specs.Named.{first, first_index, with_declaration, newest}

abbrev three : List (List ℕ × ℕ)
three = (codes "c", 5) ∷ (codes "d", 7) ∷ (codes "c", 9) ∷ []

first_c : first three (codes "c") ≡ Some 5
first_c = refl

place_of_d : first_index three (codes "d") ≡ Some 1
place_of_d = refl

newest_c : newest three (codes "c") ≡ Some (2, 9)
newest_c = refl

newest_d : newest three (codes "d") ≡ Some (1, 7)
newest_d = refl

no_e : newest three (codes "e") ≡ None
no_e = refl

-- a name that is there stays as it is, a new one goes last
abbrev one : List (List ℕ × ℕ)
one = (codes "c", 5) ∷ []

abbrev two : List (List ℕ × ℕ)
two = (codes "c", 5) ∷ (codes "d", 7) ∷ []

declared_again : with_declaration one (codes "c") 9 ≡ one
declared_again = refl

declared_new : with_declaration one (codes "d") 7 ≡ two
declared_new = refl
