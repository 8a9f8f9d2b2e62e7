-- The text that reports outcomes as another program's, or as not.
use Rattle.std.specs.Prelude.{◌++◌, ℕ, List, codes, decimal}
use Rattle.report.specs.OutcomeList.{ReportedOrder, order_text, walk_words}
use Rattle.report.specs.declared.outcome_list.WalkEnd.TheVariants.{Whole}

-- each of so many outcomes is one of the program of this name, which has so many; each has so many threads
abbrev pub refined_text : (name : List ℕ) → (outcomes others threads : ℕ) → List ℕ
refined_text name outcomes others threads =
    codes "== refines " ++ name ++ codes ": outcomes " ++ decimal outcomes ++ codes " of " ++ decimal others
    ++ walk_words threads Whole

-- an outcome that the program of this name does not have
abbrev pub beyond_text : (name : List ℕ) → ReportedOrder → List ℕ
beyond_text name o = order_text (codes "== not an outcome of " ++ name ++ codes " --order ") o
