-- What the names of a scope say.
use Rattle.std.proofs.Common.{◌≡◌, ℕ, ◌+◌, ◌≤◌, List, [], ◌∷◌, ◌++◌, length, length-append, take, map, refl, sym, ap, ◌∙◌, arith, bytes_eq, is_some, Bool, true, false, ◌||◌, Option, Some, None, if◌then◌else◌}
use Rattle.std.specs.Option.{option_or}
use Rattle.std.proofs.Math.Seq.{take-append_seam}
use Rattle.syntax.specs.Typing.{has_name}
use Rattle.name_tables.specs.Named.{newest_from}

-- a name is a local's where it has a newest one
pub has_newest : {V : Type 0} (i : ℕ) (ls : List (List ℕ × V)) (x : List ℕ) → is_some (newest_from i ls x) ≡ has_name (map (λ l. l.0) ls) x
has_newest i [] x = refl
has_newest {V} i (l ∷ ls) x = by (newest_from (i + 1) ls x) (bytes_eq l.0 x) (has_name (map (λ m. m.0) ls) x) (has_newest (i + 1) ls x)
  where
    by : (o : Option (ℕ × V)) (b r : Bool) → is_some o ≡ r → is_some (option_or o (if b then Some (i, l.1) else None)) ≡ (b || r)
    by None true r h = refl
    by None false r h = h
    by (Some n) true r h = refl
    by (Some n) false r h = h

module _ {X : Type 0} where
  -- what a scope added is left behind
  pub left : (old mid new more : List X) (n : ℕ) → n ≡ length old → mid ≡ old ++ more → new ≡ take n mid → new ≡ old
  left old mid new more n size is rest = rest ∙ ap (λ k. take k mid) size ∙ ap (take (length old)) is ∙ take-append_seam old more

  pub room : (old mid more : List X) (n : ℕ) → n ≡ length old → mid ≡ old ++ more → n ≤ length mid
  room old mid more n size is = let h = ap length is ∙ length-append old more in omega (arith, h, size)
