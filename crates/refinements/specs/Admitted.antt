-- Whether an outcome has a report, and the text that says so.
use Rattle.std.specs.Prelude.{◌≡◌, ◌⊎◌, ◌≤◌, ◌++◌, ℕ, List, codes, decimal}
use Rattle.differences.specs.Texts.{IsFirstDifference, difference_text}
use Rattle.report.specs.OutcomeList.{ReportedOrder, order_word, walk_words}
use Rattle.report.specs.Report.{report_text}
use Rattle.report.specs.declared.outcome_list.WalkEnd.TheVariants.{Whole}

-- an order of so many threads, as options of a command line
abbrev pub order_options : (threads : ℕ) → (order : List ℕ) → List ℕ
order_options threads order =
    codes " --threads " ++ decimal threads ++ codes " --order " ++ order_word order ++ codes "\n"

-- the outcome with this order has the report in the file of this name
abbrev pub admitted_text : (name : List ℕ) → (threads : ℕ) → (order : List ℕ) → List ℕ
admitted_text name threads order = codes "== admits " ++ name ++ order_options threads order

-- the line in which the report of an outcome first differs from this one, in both reports
abbrev pub lines_text : ReportedOrder → (report : List ℕ) → (at : ℕ) → List ℕ
lines_text o report at = difference_text (codes "outcome") (codes "report") (report_text o.shown) report at

-- no outcome has it, and this one first differs from it in this line
abbrev pub nearest_text : (name : List ℕ) → (threads : ℕ) → ReportedOrder → (report : List ℕ) → (at : ℕ) → List ℕ
nearest_text name threads o report at =
    codes "== does not admit " ++ name ++ codes ", nearest outcome" ++ order_options threads o.order
    ++ lines_text o report at

-- there are no outcomes
abbrev pub none_text : (name : List ℕ) → (threads : ℕ) → List ℕ
none_text name threads =
    codes "== does not admit " ++ name ++ codes ", outcomes: 0" ++ walk_words threads Whole

-- an outcome has this report
abbrev pub HasReport : (report : List ℕ) → ReportedOrder → Type 0
HasReport report o = report ≡ report_text o.shown

-- the report of an outcome first differs from this one in this line, counted from 0
abbrev pub DiffersAt : (report : List ℕ) → ReportedOrder → (at : ℕ) → Type 0
DiffersAt report o at = IsFirstDifference (report_text o.shown) report at

-- likewise, in this line or in an earlier one
abbrev pub DiffersBy : (report : List ℕ) → (at : ℕ) → ReportedOrder → Type 0
DiffersBy report at o = (k : ℕ) × DiffersAt report o k × (k ≤ at)

module _ (IsOne : ReportedOrder → Type 0) (name : List ℕ) (threads : ℕ) (report : List ℕ) where
  -- one of the outcomes has the report, and the text shows its order
  pub record SaysAdmitted (written : List ℕ) : Type 0 where
    pub one : ReportedOrder
    pub is_one : IsOne one
    pub has : HasReport report one
    pub said : written ≡ admitted_text name threads one.order

  -- Each of the outcomes differs from the report, no later than in some line. The text shows this line, and one of the
  -- outcomes that are the same before it.
  pub record ShowsNearest (written : List ℕ) : Type 0 where
    pub one : ReportedOrder
    pub is_one : IsOne one
    pub at : ℕ
    pub differs : DiffersAt report one at
    pub each : (o : ReportedOrder) → IsOne o → DiffersBy report at o
    pub shown : written ≡ nearest_text name threads one report at

  -- there are no outcomes, and the text says so
  pub record SaysNone (written : List ℕ) : Type 0 where
    pub none : (o : ReportedOrder) → IsOne o → ⊥
    pub said : written ≡ none_text name threads

  -- none of the outcomes has the report
  abbrev pub ShowsUnadmitted : List ℕ → Type 0
  ShowsUnadmitted written = ShowsNearest written ⊎ SaysNone written
