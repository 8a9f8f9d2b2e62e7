-- What the newest declaration of a name is, after one declaration more.
use Rattle.std.proofs.Common.{◌≡◌, ℕ, suc, ◌+◌, List, [], ◌∷◌, ◌++◌, length, Bool, true, false, refl, ap, ◌∙◌, bytes_eq, if◌then◌else◌, Some, None, arith}
use Rattle.std.specs.Option.{option_or}
use Rattle.name_tables.specs.Named.{newest_from, newest}

module _ {V : Type 0} where
  -- one declaration more at the end
  pub newest_last : (ls : List (List ℕ × V)) (l : List ℕ × V) (i : ℕ) (x : List ℕ) →
      newest_from i (ls ++ l ∷ []) x ≡ (if bytes_eq l.0 x then Some (i + length ls, l.1) else newest_from i ls x)
  newest_last [] l i x = by (bytes_eq l.0 x)
    where
      by : (b : Bool) → option_or {T = ℕ × V} None (if b then Some (i, l.1) else None) ≡ (if b then Some (i + 0, l.1) else None)
      by true = let e : i ≡ i + 0 = omega arith in ap (λ n. Some (n, l.1)) e
      by false = refl
  newest_last (m ∷ ls) l i x = ap (λ o. option_or {T = ℕ × V} o (if bytes_eq m.0 x then Some (i, m.1) else None)) (newest_last ls l (i + 1) x) ∙ by (bytes_eq l.0 x)
    where
      by : (b : Bool) → option_or {T = ℕ × V} (if b then Some (i + 1 + length ls, l.1) else newest_from (i + 1) ls x) (if bytes_eq m.0 x then Some (i, m.1) else None)
          ≡ (if b then Some (i + suc (length ls), l.1) else option_or {T = ℕ × V} (newest_from (i + 1) ls x) (if bytes_eq m.0 x then Some (i, m.1) else None))
      by true = let e : i + 1 + length ls ≡ i + suc (length ls) = omega arith in ap (λ n. Some (n, l.1)) e
      by false = refl

  pub newest_more : (ls : List (List ℕ × V)) (l : List ℕ × V) (x : List ℕ) → newest (ls ++ l ∷ []) x ≡ (if bytes_eq l.0 x then Some (length ls, l.1) else newest ls x)
  newest_more ls l x = newest_last ls l 0 x ∙ ap (λ n. if bytes_eq l.0 x then Some (n, l.1) else newest ls x) (let none : 0 + length ls ≡ length ls = omega arith in none)
