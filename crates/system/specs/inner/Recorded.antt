-- There is at most one proof that a writer was passed the recorded bytes.
use Rattle.std.specs.Prelude.{ℕ, List, ◌++◌, Option, Some, None}
use Rattle.std.specs.Coded.{Coded-set, coded_list, coded_ℕ, Unit-prop}
use Rattle.std.specs.Io.KnownBytes.{Appends}

pub Appends-prop : (old new : Option (List ℕ)) (bytes : List ℕ) → IsProp (Appends old new bytes)
Appends-prop None new bytes = Unit-prop
Appends-prop (Some xs) None bytes = λ x y. absurd x
Appends-prop (Some xs) (Some ys) bytes = Coded-set (coded_list coded_ℕ) ys (xs ++ bytes)
