-- The meaning of a status for properties and every number of threads.
use Rattle.std.proofs.Common.{◌≡◌, ◌≢◌, ◌==◌, ◌⊎◌, ◌||◌, inl, ℕ, Bool, true, false, List, [], ◌∷◌, Option, Some, map, ap, subst, refl}
use Rattle.std.specs.Prelude.{string_bytes}
use Rattle.std.specs.List.{list_any, slice_split}
use Rattle.std.specs.Io.KnownBytes.{Appends}
use Rattle.syntax.specs.Tree.{Program}
use Rattle.syntax.specs.Grammar.{ParsedSource}
use Rattle.separation.specs.Touching.{IsAccepted}
use Rattle.command.specs.declared.request.Coverage.{Coverage}
use Rattle.report.specs.Coverings.{CoveredFinding, CoveredProperty, coverings_text}
use Rattle.report.specs.CoveringViews.{covering_of}
use Rattle.report.specs.declared.coverings.CoveredProperty.{CoveredProperty as Own}
use Rattle.serving.specs.Checks.{IsSourceOf}
use Rattle.serving.specs.Coverings.{AreCoveredOf, AreCoveredOfText, IsTextOfCoverings, TellsCoverings}
use Rattle.serving.specs.Coverings.{has_failed_covered, has_unheld_covered}
use Rattle.serving.specs.Written.{WritesPart}
use Rattle.serving.specs.inner.Serves.{PrintsCoverings, ServesCoverage}
use Rattle.serving.proofs.Parts.{part_so}
use Rattle.serving.proofs.Printing.{serves_so}
use Rattle.serving.proofs.Verdicts.{at_most_five, not_five, not_one, not_zero}

module _ (Is Are : List CoveredProperty → Type 0) (so : (ps : List CoveredProperty) → Is ps → Are ps) where
  tells_so : (status : ℕ) (old new : Option (List ℕ)) → TellsCoverings Is status old new → TellsCoverings Are status old new
  tells_so status old new tells = record {
    held = λ e. let h = tells.held e in (h.0, so h.0 h.1, h.2, h.3);
    failed = λ e. let f = tells.failed e in (f.0, so f.0 f.1, f.2, f.3);
  }

  text_so : (written : List ℕ) → IsTextOfCoverings Is written → IsTextOfCoverings Are written
  text_so written is = (is.0, so is.0 is.1, is.2)

  parts_so : (old new : Option (List ℕ)) → WritesPart (IsTextOfCoverings Is) old new → WritesPart (IsTextOfCoverings Are) old new
  parts_so old new = part_so (IsTextOfCoverings Is) (IsTextOfCoverings Are) old new text_so

  pub coverings_so : (status : ℕ) (old new : Option (List ℕ)) → PrintsCoverings Is status old new → PrintsCoverings Are status old new
  coverings_so status old new s = serves_so s (tells_so status old new) (parts_so old new)

-- an accepted program, and the text that spells it
module _ (coverage : Coverage) (text : List ℕ) (source : ParsedSource) (spelled : IsSourceOf text source) (accepted : ∥ IsAccepted source.program ∥₁) where
  abbrev pub Theirs : List CoveredProperty → Type 0
  Theirs = AreCoveredOf source.program coverage.steps (slice_split (λ b. b == 44) (string_bytes coverage.always))

  covered_of_text : (ps : List CoveredProperty) → Theirs ps → AreCoveredOfText coverage text ps
  covered_of_text ps are = record { source = source; spelled = spelled; accepted = accepted; are = are }

  pub serves_covered : (status : ℕ) (old new : Option (List ℕ)) → PrintsCoverings Theirs status old new → ServesCoverage coverage (Some text) status old new
  serves_covered status old new s =
      serves_so s (tells_so Theirs (AreCoveredOfText coverage text) covered_of_text status old new) (parts_so Theirs (AreCoveredOfText coverage text) covered_of_text old new)

-- the same names have the same findings
pub prints_named : (p : Program) (steps : ℕ) (these names : List (List ℕ)) (status : ℕ) (old new : Option (List ℕ)) → these ≡ names → PrintsCoverings (AreCoveredOf p steps these) status old new → PrintsCoverings (AreCoveredOf p steps names) status old new
prints_named p steps these names status old new same = subst (λ xs. PrintsCoverings (AreCoveredOf p steps xs) status old new) same

-- ---- these findings

module _ (properties : List CoveredProperty) (text : List ℕ) (is : text ≡ coverings_text properties) where
  pub tells_covered : (status : ℕ) (old new : Option (List ℕ)) → Appends old new text → (status ≡ 0 → has_unheld_covered properties ≡ false) → (status ≡ 5 → has_failed_covered properties ≡ true) → TellsCoverings (λ ps. ps ≡ properties) status old new
  tells_covered status old new writes held failed = record {
    held = λ e. (properties, refl, held e, subst (Appends old new) is writes);
    failed = λ e. (properties, refl, failed e, subst (Appends old new) is writes);
  }

  pub text_of_covered : IsTextOfCoverings (λ ps. ps ≡ properties) text
  text_of_covered = (properties, refl, is)

-- some property passes a test
pub any_covered : {A : Type 0} (test : CoveredFinding → Bool) (rs : List (Own A)) → list_any (λ (r : CoveredProperty). test r.finding) (map covering_of rs) ≡ list_any (λ (r : Own A). test (covering_of r).finding) rs
any_covered test [] = refl
any_covered test (r ∷ rs) = ap (λ b. test (covering_of r).finding || b) (any_covered test rs)

-- ---- a status that reports nothing

pub says_nothing : (Are : List CoveredProperty → Type 0) (status : ℕ) (old new : Option (List ℕ)) → status ≢ 0 → status ≢ 5 → TellsCoverings Are status old new
says_nothing Are status old new zero five = record { held = λ e. absurd (zero e); failed = λ e. absurd (five e) }

-- a refusal
pub refused_coverings : (Are : List CoveredProperty → Type 0) (status : ℕ) (old new : Option (List ℕ)) → (status ≡ 2) ⊎ (status ≡ 4) → new ≡ old → PrintsCoverings Are status old new
refused_coverings Are status old new is same = record {
  within = at_most_five status is;
  answers = says_nothing Are status old new (not_zero status is) (not_five status is);
  refused = not_one status is;
  written = inl same;
  untouched = λ e. same;
}
