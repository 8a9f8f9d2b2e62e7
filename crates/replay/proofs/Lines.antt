-- The lines of rows, one more at the end.
use Rattle.std.proofs.Common.{ap, sym, subst, zero, suc, ◌<◌, ◌≤◌, map, take, drop, length, get_or, Bor, ◌≡◌, ℕ, ◌+◌, List, [], ◌∷◌, ◌++◌, inl, inr, refl, arith}
use Rattle.replay.specs.declared.line.Line.{Line}
use Rattle.std.proofs.lemmas.List.{map_more}
use Rattle.replay.specs.declared.line.TheConstants.{MOST_STEPS}
use Rattle.replay.specs.Schedules.{AreSpaces, AreRows, Asks, ReadsTo, counts}

pub counts_more : (found : List Line) (line : Line) → counts (found ++ line ∷ []) ≡ counts found + line.count
counts_more [] line = omega arith
counts_more (l ∷ found) line = let h = counts_more found line in omega (arith, h)

pub blank_more : (rows : List (List ℕ)) (found : List Line) (row : List ℕ) → AreRows rows found → AreSpaces row → AreRows (rows ++ row ∷ []) found
blank_more [] found row are is = inl (is, are)
blank_more (r ∷ rows) found row are is = elim are as (λ _. AreRows (r ∷ (rows ++ row ∷ [])) found) [
  | inl blank ↦ inl (blank.0, blank_more rows found row blank.1 is)
  | inr asked ↦ inr (asked.0, asked.1, asked.2, asked.3, blank_more rows asked.1 row asked.4 is)
]

pub line_more : (rows : List (List ℕ)) (found : List Line) (row : List ℕ) (line : Line) → AreRows rows found → Asks row line → AreRows (rows ++ row ∷ []) (found ++ line ∷ [])
line_more [] found row line are is = inr (line, [], ap (λ z. z ++ line ∷ []) are, is, refl)
line_more (r ∷ rows) found row line are is = elim are as (λ _. AreRows (r ∷ (rows ++ row ∷ [])) (found ++ line ∷ [])) [
  | inl blank ↦ inl (blank.0, line_more rows found row line blank.1 is)
  | inr asked ↦ inr (asked.0, asked.1 ++ line ∷ [], ap (λ z. z ++ line ∷ []) asked.2, asked.3, line_more rows asked.1 row line asked.4 is)
]

-- ---- a row by its place

row_place : (items : List (Bor (List ℕ))) (i : ℕ) (d : Bor (List ℕ)) → i < length items → map (λ row. row.now) items ≡ map (λ row. row.now) (take i items) ++ (get_or items i d).now ∷ map (λ row. row.now) (drop (suc i) items)
row_place [] i d less = absurd (omega (arith, less))
row_place (x ∷ items) zero d less = refl
row_place (x ∷ items) (suc i) d less = ap (λ z. x.now ∷ z) (row_place items i d (omega (arith, less)))

taken_length : (items : List (Bor (List ℕ))) (i : ℕ) → i < length items → length (map (λ row. row.now) (take i items)) ≡ i
taken_length [] i less = absurd (omega (arith, less))
taken_length (x ∷ items) zero less = refl
taken_length (x ∷ items) (suc i) less = ap suc (taken_length items i (omega (arith, less)))

pub reads_to : (items : List (Bor (List ℕ))) (i : ℕ) (d : Bor (List ℕ)) (found : List Line) → i < length items → AreRows (map (λ row. row.now) (take i items)) found → counts found ≤ MOST_STEPS → ReadsTo (map (λ row. row.now) items) (get_or items i d).now i found
reads_to items i d found less rows few = record {
  before = map (λ row. row.now) (take i items);
  after = map (λ row. row.now) (drop (suc i) items);
  place = row_place items i d less;
  number = taken_length items i less;
  read = (rows, few);
}

pub blank_next : (items : List (Bor (List ℕ))) (i : ℕ) (d : Bor (List ℕ)) (found : List Line) → i < length items → AreRows (map (λ row. row.now) (take i items)) found → AreSpaces (get_or items i d).now → AreRows (map (λ row. row.now) (take (i + 1) items)) found
blank_next items i d found less rows is = subst (λ z. AreRows z found) (sym (map_more (λ row. row.now) items i d less)) (blank_more (map (λ row. row.now) (take i items)) found (get_or items i d).now rows is)

pub line_next : (items : List (Bor (List ℕ))) (i : ℕ) (d : Bor (List ℕ)) (found : List Line) (line : Line) → i < length items → AreRows (map (λ row. row.now) (take i items)) found → Asks (get_or items i d).now line → AreRows (map (λ row. row.now) (take (i + 1) items)) (found ++ line ∷ [])
line_next items i d found line less rows is = subst (λ z. AreRows z (found ++ line ∷ [])) (sym (map_more (λ row. row.now) items i d less)) (line_more (map (λ row. row.now) (take i items)) found (get_or items i d).now line rows is)
