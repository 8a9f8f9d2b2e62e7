-- What a cancel of several levels leaves of the inner begins: the list without its first ones.
use Rattle.std.proofs.Common.{◌≡◌, ℕ, zero, suc, List, [], ◌∷◌, ◌++◌, length, drop, arith}
use Rattle.std.specs.List.{AllByRecursion}

-- what holds of each holds of those left
pub all_left : {X : Type 0} (P : X → Type 0) (n : ℕ) (xs : List X) → AllByRecursion P xs → AllByRecursion P (drop n xs)
all_left P zero xs h = h
all_left P (suc n) [] h = tt
all_left P (suc n) (x ∷ xs) h = all_left P n xs h.1

-- a list is split in one way behind so many
pub same_split : {X : Type 0} (xs ys : List X) (x y : X) (rest more : List X) → length xs ≡ length ys → xs ++ x ∷ rest ≡ ys ++ y ∷ more → (x ≡ y) × (rest ≡ more)
same_split [] [] x y rest more n e = (cc, cc)
same_split [] (z ∷ ys) x y rest more n e = absurd (omega (arith, n))
same_split (z ∷ xs) [] x y rest more n e = absurd (omega (arith, n))
same_split (z ∷ xs) (w ∷ ys) x y rest more n e = let f : xs ++ x ∷ rest ≡ ys ++ y ∷ more = cc in same_split xs ys x y rest more (omega (arith, n)) f
