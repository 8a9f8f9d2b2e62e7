-- The meaning of a status for a report that is compared with outcomes.
use Rattle.std.proofs.Common.{◌≡◌, ◌≢◌, ◌≤◌, inl, inr, ℕ, Bool, true, false, List, Option, refl, sym, subst, arith}
use Rattle.std.specs.Prelude.{Contains, IfSome, string_bytes}
use Rattle.std.specs.Global.{Global}
use Rattle.std.specs.declared.string.String.{String}
use Rattle.command.specs.declared.request.Against.TheVariants.{Admitted}
use Rattle.command.specs.declared.request.Comparison.{Comparison}
use Rattle.refinements.specs.Admitted.{DiffersBy, SaysAdmitted, ShowsUnadmitted}
use Rattle.report.specs.OutcomeList.{ReportedOrder}
use Rattle.report.specs.declared.outcome_list.WalkEnd.{WalkEnd}
use Rattle.report.specs.declared.outcome_list.WalkEnd.TheVariants.{Whole}
use Rattle.separation.specs.Touching.{IsAccepted}
use Rattle.serving.specs.Admitted.{AdmitsReport, DeniesReport}
use Rattle.serving.specs.Checks.{IsSourceOf}
use Rattle.serving.specs.Compared.{AreEitherInTurn, ComparesOutcomes, TellsInTurn, WritesComparison}
use Rattle.serving.specs.Limits.{HasNoCode}
use Rattle.serving.specs.Outcomes.{AreOutcomesOf, IsOutcomeOf}
use Rattle.serving.specs.Verdicts.{IsEither, Tells}
use Rattle.serving.specs.Written.{WritesPart}
use Rattle.serving.specs.inner.Admitted.{SaysSoAmong, SaysSoOf, ShowsNoneAmong, ShowsNoneOf}
use Rattle.serving.specs.inner.Serves.{PrintsEither, ServesEither}
use Rattle.serving.proofs.Comparing.{is_listed, of_all, one_with}
use Rattle.serving.proofs.Verdicts.{either_served, known_all, prints_so, tells_refusal}
use Rattle.syntax.specs.Grammar.{ParsedSource}
use Rattle.syntax.specs.Tree.{Program}

-- ---- the comparison is one with a report

module _ (c : Comparison) (file : String Global) (name text : List ℕ) (other : Option (List ℕ)) (same : name ≡ string_bytes file) where
  -- the meaning of a status and the text written, if outcomes are compared with the report of this name
  abbrev pub AdmittedTold : (name : List ℕ) → (status : ℕ) → (old new : Option (List ℕ)) → Type 0
  AdmittedTold n status old new = IfSome other (λ bytes. Tells (AdmitsReport n c.threads.first text bytes) (DeniesReport n c.threads.first text bytes) status old new)

  abbrev pub AdmittedWritten : (name : List ℕ) → (old new : Option (List ℕ)) → Type 0
  AdmittedWritten n old new = IfSome other (λ bytes. WritesPart (IsEither (AdmitsReport n c.threads.first text bytes) (DeniesReport n c.threads.first text bytes)) old new)

  pub compares_admitted : (status : ℕ) (old new : Option (List ℕ)) → c.against ≡ Admitted file → AdmittedTold name status old new → ComparesOutcomes c other text status old new
  compares_admitted status old new is t =
      let this = subst (λ n. AdmittedTold n status old new) same t in
      subst (λ a. IfSome other (λ bytes. TellsInTurn a c.threads text bytes status old new)) (sym is) this

  pub comparison_admitted : (old new : Option (List ℕ)) → c.against ≡ Admitted file → AdmittedWritten name old new → WritesComparison c other text old new
  comparison_admitted old new is w =
      let this = subst (λ n. AdmittedWritten n old new) same w in
      subst (λ a. IfSome other (λ bytes. WritesPart (AreEitherInTurn a c.threads text bytes) old new)) (sym is) this

-- ---- outcomes of a program, and those of a text

module _ (text : List ℕ) (source : ParsedSource) (spelled : IsSourceOf text source) (accepted : ∥ IsAccepted source.program ∥₁) (name : List ℕ) (count : ℕ) where
  admits_here : (b w : List ℕ) → SaysAdmitted (IsOutcomeOf source.program count) name count b w → AdmitsReport name count text b w
  admits_here b w is = record { source = source; spelled = spelled; accepted = accepted; is_so = is }

  denies_here : (b w : List ℕ) → ShowsUnadmitted (IsOutcomeOf source.program count) name count b w → DeniesReport name count text b w
  denies_here b w is = record { source = source; spelled = spelled; accepted = accepted; is_so = is }

  pub report_served : (known : Option (List ℕ)) (status : ℕ) (old new : Option (List ℕ)) → ServesEither (SaysAdmitted (IsOutcomeOf source.program count) name count) (ShowsUnadmitted (IsOutcomeOf source.program count) name count) ⊥ known status old new → ServesEither (AdmitsReport name count text) (DeniesReport name count text) (HasNoCode text) known status old new
  report_served known status old new s =
      either_served (SaysAdmitted (IsOutcomeOf source.program count) name count) (ShowsUnadmitted (IsOutcomeOf source.program count) name count) (AdmitsReport name count text) (DeniesReport name count text) admits_here denies_here (HasNoCode text) known status old new s

-- the text is refused
pub report_refused : (name : List ℕ) (count : ℕ) (text : List ℕ) (known : Option (List ℕ)) (status : ℕ) (old : Option (List ℕ)) → status ≤ 4 → status ≢ 0 → (status ≡ 1 → HasNoCode text) → ServesEither (AdmitsReport name count text) (DeniesReport name count text) (HasNoCode text) known status old old
report_refused name count text known status old within not_ended refused = record {
  within = omega (arith, within);
  answers = known_all (λ b. Tells (AdmitsReport name count text b) (DeniesReport name count text b) status old old) (λ b. tells_refusal (AdmitsReport name count text b) (DeniesReport name count text b) status old old within not_ended) known;
  refused = refused;
  written = known_all (λ b. WritesPart (IsEither (AdmitsReport name count text b) (DeniesReport name count text b)) old old) (λ b. inl refl) known;
  untouched = λ one. refl;
}

-- ---- outcomes that were found, and those of a program

module _ (p : Program) (count : ℕ) (name report : List ℕ) (end : WalkEnd) (outcomes stuck : List ReportedOrder) (are : AreOutcomesOf p count end outcomes stuck) where
  outcome_has : (w : List ℕ) → SaysSoAmong outcomes name count report w → SaysAdmitted (IsOutcomeOf p count) name count report w
  outcome_has w s = record { one = s.one; is_one = of_all (IsOutcomeOf p count) outcomes s.one are.each s.is_one; has = s.has; said = s.said }

  -- an outcome that was found shows what an outcome shows
  shown_by_one : end ≡ Whole → (o : ReportedOrder) → IsOutcomeOf p count o → (u : ReportedOrder) × Contains outcomes u × (u.shown ≡ o.shown)
  shown_by_one whole o is = let has = is_listed p count end outcomes stuck are whole o is in one_with outcomes has.0 o.shown o.shown has.1 has.2

  differs_too : (at : ℕ) (u o : ReportedOrder) → u.shown ≡ o.shown → DiffersBy report at u → DiffersBy report at o
  differs_too at u o same by = subst (λ s. DiffersBy report at (record { order = o.order; shown = s })) same by

  none_has : (w : List ℕ) → ShowsUnadmitted (Contains outcomes) name count report w → end ≡ Whole → ShowsUnadmitted (IsOutcomeOf p count) name count report w
  none_has w (inl s) whole = inl (record {
    one = s.one;
    is_one = of_all (IsOutcomeOf p count) outcomes s.one are.each s.is_one;
    at = s.at;
    differs = s.differs;
    each = λ o is. let u = shown_by_one whole o is in differs_too s.at u.0 o u.2 (s.each u.0 u.1);
    shown = s.shown;
  })
  none_has w (inr s) whole = inr (record { none = λ o is. let u = shown_by_one whole o is in s.none u.0 u.1; said = s.said })

  shows_none : (w : List ℕ) → ShowsNoneAmong end outcomes name count report w → ShowsUnadmitted (IsOutcomeOf p count) name count report w
  shows_none w s = none_has w s.1 s.0

  pub report_told : (status : ℕ) (old new : Option (List ℕ)) → PrintsEither (SaysSoAmong outcomes name count report) (ShowsNoneAmong end outcomes name count report) status old new → PrintsEither (SaysAdmitted (IsOutcomeOf p count) name count report) (ShowsUnadmitted (IsOutcomeOf p count) name count report) status old new
  report_told status old new s =
      prints_so (SaysSoAmong outcomes name count report) (ShowsNoneAmong end outcomes name count report) (SaysAdmitted (IsOutcomeOf p count) name count report) (ShowsUnadmitted (IsOutcomeOf p count) name count report) outcome_has shows_none status old new s

-- ---- the text that is written

module _ (end : WalkEnd) (outcomes : List ReportedOrder) (name : List ℕ) (threads : ℕ) (report : List ℕ) (is_admitted : Bool) (text : List ℕ) (so : is_admitted ≡ true → SaysAdmitted (Contains outcomes) name threads report text) (no : is_admitted ≡ false → ShowsUnadmitted (Contains outcomes) name threads report text) where
  so_among : (w : List ℕ) → SaysSoOf is_admitted text w → SaysSoAmong outcomes name threads report w
  so_among w s = subst (SaysAdmitted (Contains outcomes) name threads report) (sym s.1) (so s.0)

  none_among : (w : List ℕ) → ShowsNoneOf end is_admitted text w → ShowsNoneAmong end outcomes name threads report w
  none_among w s = (s.1, subst (ShowsUnadmitted (Contains outcomes) name threads report) (sym s.2) (no s.0))

  pub admission_told : (status : ℕ) (old new : Option (List ℕ)) → PrintsEither (SaysSoOf is_admitted text) (ShowsNoneOf end is_admitted text) status old new → PrintsEither (SaysSoAmong outcomes name threads report) (ShowsNoneAmong end outcomes name threads report) status old new
  admission_told status old new s =
      prints_so (SaysSoOf is_admitted text) (ShowsNoneOf end is_admitted text) (SaysSoAmong outcomes name threads report) (ShowsNoneAmong end outcomes name threads report) so_among none_among status old new s
