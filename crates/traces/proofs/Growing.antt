-- One step of the loop that makes columns.
use Rattle.std.proofs.Common.{◌≡◌, ◌∙◌, ℕ, suc, ◌+◌, Bool, true, List, [], ◌∷◌, ◌++◌, map, ap, sym, subst, arith}
use Rattle.std.specs.Prelude.{if◌then◌else◌}
use Rattle.std.proofs.lemmas.List.{map-append}
use Rattle.syntax.specs.Behaviours.{Memory}
use Rattle.traces.specs.Columns.{Column, column_at, columns_to, is_touched}
use Rattle.traces.specs.Turns.{Named, TurnShown}

-- a column is added where it has to be
pub column_pushed : {X Y : Type 0} (view : X → Y) (old now : List X) (x : X) (flag : Bool) (y : Y) → flag ≡ true → view x ≡ y → now ≡ old ++ x ∷ [] → map view now ≡ map view old ++ (if flag then y ∷ [] else [])
column_pushed view old now x flag y needed same is =
    ap (map view) is ∙ map-append view old (x ∷ []) ∙ ap (λ z. map view old ++ z ∷ []) same
    ∙ ap (λ b. map view old ++ (if b then y ∷ [] else [])) (sym needed)

-- the columns of one cell more
pub columns_more : (names : List Named) (first : Memory) (turns : List TurnShown) (n : ℕ) (before now : List Column) → now ≡ before ++ (if is_touched n turns then column_at names first turns n ∷ [] else []) → before ≡ columns_to names first turns n → now ≡ columns_to names first turns (n + 1)
columns_more names first turns n before now is was =
    let next : suc n ≡ n + 1 = omega arith in
    subst (λ k. now ≡ columns_to names first turns k) next (is ∙ ap (λ cs. cs ++ (if is_touched n turns then column_at names first turns n ∷ [] else [])) was)
