-- The meaning of a status for compared outcomes.
use Rattle.std.proofs.Common.{◌≡◌, ◌≢◌, ◌∙◌, ◌⊎◌, inl, inr, ◌-◌, ◌<◌, ℕ, zero, suc, false, List, [], ◌∷◌, All, Contains, length, get_or, Option, Some, refl, sym, ap, subst, arith}
use Rattle.std.specs.Prelude.{IfSome, codes, string_bytes}
use Rattle.std.specs.Global.{Global}
use Rattle.std.specs.declared.string.String.{String}
use Rattle.command.specs.declared.request.Against.{Against}
use Rattle.command.specs.declared.request.Against.TheVariants.{Refined, Expected, Admitted}
use Rattle.command.specs.declared.request.Comparison.{Comparison}
use Rattle.differences.specs.Texts.{IsFirstDifference, difference_text}
use Rattle.syntax.specs.Tree.{Program}
use Rattle.syntax.specs.Grammar.{ParsedSource}
use Rattle.separation.specs.Touching.{IsAccepted}
use Rattle.report.specs.declared.outcome_list.WalkEnd.{WalkEnd}
use Rattle.report.specs.declared.outcome_list.WalkEnd.TheVariants.{Whole}
use Rattle.report.specs.OutcomeList.{ReportedOrder, reports}
use Rattle.report.specs.Printed.{Printed}
use Rattle.refinements.specs.ShownBy.{IsShownAmong, IsShownBy}
use Rattle.refinements.specs.Told.{beyond_text, refined_text}
use Rattle.serving.specs.Checks.{IsSourceOf}
use Rattle.serving.specs.Compared.{AreEitherInTurn, ComparesOutcomes, Confirms, Denies, HaveNoCode, TellsInTurn, WritesComparison, more_compared}
use Rattle.serving.specs.Expected.{SaysExpected, ShowsUnexpected}
use Rattle.serving.specs.InTurn.{AreTextsInTurn, SaysInTurn}
use Rattle.serving.specs.Limits.{HasNoCode}
use Rattle.serving.specs.Outcomes.{AreOutcomesOf, IsListEnding, IsOutcomeOf}
use Rattle.serving.specs.Refines.{AreSourcesOf, IsBeyond, Refines, SaysRefined, SaysRefines, ShowsBeyond, ShowsOther}
use Rattle.serving.specs.Refusals.{IsRefused}
use Rattle.serving.specs.Reports.{has_stopped}
use Rattle.serving.specs.Verdicts.{IsEither, Tells}
use Rattle.serving.specs.Written.{WritesPart}
use Rattle.serving.specs.inner.Compared.{SaysShown, ShowsUnshown}
use Rattle.serving.specs.inner.Serves.{PrintsEither, PrintsEitherInTurn, ServesEitherInTurn, ServesExpected}
use Rattle.serving.proofs.InTurn.{part_in_turn, says_so, stops}
use Rattle.serving.proofs.Refusals.{refused_text, unread_refused}
use Rattle.serving.proofs.Printing.{serves_so}
use Rattle.serving.proofs.Verdicts.{either_served, either_so, known_all, known_so, not_five, not_zero, prints_so, tells_nothing, tells_so}

-- ---- comparisons about which a status reports nothing

module _ (c : Comparison) (other : Option (List ℕ)) (status : ℕ) (old new : Option (List ℕ)) where
  pub nothing_compared : (text : List ℕ) → status ≢ 0 → status ≢ 5 → ComparesOutcomes c other text status old new
  nothing_compared text no_zero no_five =
      known_all (λ bytes. TellsInTurn c.against c.threads text bytes status old new)
      (λ bytes.
      stops (λ k t b a. Tells (Confirms c.against k text bytes) (Denies c.against k text bytes) t b a) (more_compared c.against c.threads) c.threads.first status old new no_zero
      (tells_nothing (Confirms c.against c.threads.first text bytes) (Denies c.against c.threads.first text bytes) status old new no_zero no_five)) other

-- a status is passed on
pub passed_on : {IsOne : Type 0} (status told : ℕ) → told ≡ status → (status ≡ 1) × IsOne ⊎ (status ≡ 2) ⊎ (status ≡ 4) → (told ≡ 1) × IsOne ⊎ (told ≡ 2) ⊎ (told ≡ 4)
passed_on status told same (inl one) = inl (same ∙ one.0, one.1)
passed_on status told same (inr (inl two)) = inr (inl (same ∙ two))
passed_on status told same (inr (inr four)) = inr (inr (same ∙ four))

-- nothing is written
pub nothing_compared_written : (c : Comparison) (other : Option (List ℕ)) (text : List ℕ) (old new : Option (List ℕ)) → new ≡ old → WritesComparison c other text old new
nothing_compared_written c other text old new same = known_all (λ bytes. WritesPart (AreEitherInTurn c.against c.threads text bytes) old new) (λ bytes. inl same) other

-- a source that is refused has no code
pub lacks_code : (against : Against) (other : Option (List ℕ)) (text : List ℕ) → IsRefused text → HaveNoCode against other text
lacks_code (Refined file) other text is = inl (refused_text text is)
lacks_code (Expected file) other text is = refused_text text is
lacks_code (Admitted file) other text is = refused_text text is

-- ---- by the other side of the comparison

module _ (c : Comparison) (file : String Global) (name text : List ℕ) (other : Option (List ℕ)) (same : name ≡ string_bytes file) where
  -- the meaning of a status and the text written, if outcomes are compared with those of a program of this name
  abbrev pub RefinedTold : (name : List ℕ) → (status : ℕ) → (old new : Option (List ℕ)) → Type 0
  RefinedTold n status old new =
      IfSome other (λ bytes. SaysInTurn (λ k t b a. Tells (SaysRefined n k text bytes) (ShowsOther n k text bytes) t b a) (c.threads.last - c.threads.first) c.threads.first status old new)

  abbrev pub RefinedWritten : (name : List ℕ) → (old new : Option (List ℕ)) → Type 0
  RefinedWritten n old new =
      IfSome other (λ bytes. WritesPart (AreTextsInTurn (λ k w. IsEither (SaysRefined n k text bytes) (ShowsOther n k text bytes) w) (c.threads.last - c.threads.first) c.threads.first) old new)

  pub compares_refined : (status : ℕ) (old new : Option (List ℕ)) → c.against ≡ Refined file → RefinedTold name status old new → ComparesOutcomes c other text status old new
  compares_refined status old new is t =
      let this = subst (λ n. RefinedTold n status old new) same t in
      subst (λ a. IfSome other (λ bytes. TellsInTurn a c.threads text bytes status old new)) (sym is) this

  pub comparison_refined : (old new : Option (List ℕ)) → c.against ≡ Refined file → RefinedWritten name old new → WritesComparison c other text old new
  comparison_refined old new is w =
      let this = subst (λ n. RefinedWritten n old new) same w in
      subst (λ a. IfSome other (λ bytes. WritesPart (AreEitherInTurn a c.threads text bytes) old new)) (sym is) this

module _ (c : Comparison) (file : String Global) (text : List ℕ) (other : Option (List ℕ)) where
  pub compares_expected : (status : ℕ) (old new : Option (List ℕ)) → c.against ≡ Expected file → IfSome other (λ bytes. Tells (SaysExpected (IsListEnding Whole c.threads.first text) bytes) (ShowsUnexpected (IsListEnding Whole c.threads.first text) bytes) status old new) → ComparesOutcomes c other text status old new
  compares_expected status old new is t = subst (λ a. IfSome other (λ bytes. TellsInTurn a c.threads text bytes status old new)) (sym is) t

  pub comparison_expected : (old new : Option (List ℕ)) → c.against ≡ Expected file → IfSome other (λ bytes. WritesPart (IsEither (SaysExpected (IsListEnding Whole c.threads.first text) bytes) (ShowsUnexpected (IsListEnding Whole c.threads.first text) bytes)) old new) → WritesComparison c other text old new
  comparison_expected old new is w = subst (λ a. IfSome other (λ bytes. WritesPart (AreEitherInTurn a c.threads text bytes) old new)) (sym is) w

-- ---- expected lists

module _ (Is IsWhole : List ℕ → Type 0) (so : (text : List ℕ) → Is text → IsWhole text) where
  expected_so : (bytes w : List ℕ) → SaysExpected Is bytes w → SaysExpected IsWhole bytes w
  expected_so bytes w s = (so bytes s.0, s.1)

  unexpected_so : (bytes w : List ℕ) → ShowsUnexpected Is bytes w → ShowsUnexpected IsWhole bytes w
  unexpected_so bytes w s = (s.0, s.1, so s.0 s.2, s.3, s.4)

  -- the compared list is one
  pub expected_served : (Refuses : Type 0) (known : Option (List ℕ)) (status : ℕ) (old new : Option (List ℕ)) → ServesExpected Is ⊥ known status old new → ServesExpected IsWhole Refuses known status old new
  expected_served Refuses known status old new s =
      either_served (SaysExpected Is) (ShowsUnexpected Is) (SaysExpected IsWhole) (ShowsUnexpected IsWhole) expected_so unexpected_so Refuses known status old new s

module _ (IsAll : Type 0) (list expected : List ℕ) (status : ℕ) (old new : Option (List ℕ)) where
  -- the output reports that a list is the expected one, which is complete
  pub expected_said : list ≡ expected → PrintsEither (λ (w : List ℕ). IsAll × (w ≡ codes "as expected\n")) (λ (w : List ℕ). ⊥) status old new → ServesExpected (λ t. IsAll × (t ≡ list)) ⊥ (Some expected) status old new
  expected_said same s =
      let said = prints_so (λ (w : List ℕ). IsAll × (w ≡ codes "as expected\n")) (λ (w : List ℕ). ⊥) (SaysExpected (λ t. IsAll × (t ≡ list)) expected) (ShowsUnexpected (λ t. IsAll × (t ≡ list)) expected)
      (λ w so. ((so.0, sym same), so.1)) (λ w no. absurd no) status old new s in
      serves_so said (λ says. says) (λ writes. writes)

  -- the output is the first line in which a complete list differs
  pub unexpected_shown : (at : ℕ) (told : List ℕ) → IsFirstDifference expected list at → told ≡ difference_text (codes "expected") (codes "found") expected list at → PrintsEither (λ (w : List ℕ). ⊥) (λ (w : List ℕ). IsAll × (w ≡ told)) status old new → ServesExpected (λ t. IsAll × (t ≡ list)) ⊥ (Some expected) status old new
  unexpected_shown at told first is s =
      let shown = prints_so (λ (w : List ℕ). ⊥) (λ (w : List ℕ). IsAll × (w ≡ told)) (SaysExpected (λ t. IsAll × (t ≡ list)) expected) (ShowsUnexpected (λ t. IsAll × (t ≡ list)) expected)
      (λ w no. absurd no) (λ w so. (list, at, (so.0, refl), first, so.1 ∙ is)) status old new s in
      serves_so shown (λ says. says) (λ writes. writes)

-- ---- outcomes of another program

-- an order of a list, by its report
pub one_with : (xs : List ReportedOrder) (k : ℕ) (shown d : Printed) → k < length (reports xs) → get_or (reports xs) k d ≡ shown → (u : ReportedOrder) × Contains xs u × (u.shown ≡ shown)
one_with [] k shown d lt e = absurd (omega (arith, lt))
one_with (x ∷ xs) zero shown d lt e = (x, (0, omega arith, refl), e)
one_with (x ∷ xs) (suc k) shown d lt e =
    let r = one_with xs k shown d (omega (arith, lt)) e in
    let has = r.1 in (r.0, (suc has.0, let n = has.1 in omega (arith, n), has.2), r.2)

pub of_all : {X : Type 0} (P : X → Type 0) (xs : List X) (x : X) → All P xs → Contains xs x → P x
of_all P xs x all has = subst P has.2 (all has.0 x has.1)

module _ (p : Program) (count : ℕ) (end : WalkEnd) (outcomes stuck : List ReportedOrder) (are : AreOutcomesOf p count end outcomes stuck) (whole : end ≡ Whole) where
  -- each outcome shows what one of the list shows
  pub is_listed : (o : ReportedOrder) → IsOutcomeOf p count o → Contains (reports outcomes) o.shown
  is_listed o is =
      let this = is.0.order in
      subst (Contains (reports outcomes)) (sym this.shows)
      (are.all whole o.order is.0.ticks this.named (subst (λ (s : Printed). has_stopped s ≡ false) this.shows is.1))

module _ (p q : Program) (count : ℕ) (name : List ℕ) (end : WalkEnd) (outcomes stuck : List ReportedOrder) (others_end : WalkEnd) (others others_stuck : List ReportedOrder) (are : AreOutcomesOf p count end outcomes stuck) (others_are : AreOutcomesOf q count others_end others others_stuck) where
  refines : end ≡ Whole → All (IsShownAmong others) (reports outcomes) → Refines p q count
  refines whole each o is =
      let among = of_all (IsShownAmong others) (reports outcomes) o.shown each (is_listed p count end outcomes stuck are whole o is) in
      let has = among.1 in
      let one = one_with others has.0 among.0 among.0 has.1 has.2 in
      (one.0, of_all (IsOutcomeOf q count) others one.0 others_are.each one.1, subst (IsShownBy o.shown) (sym one.2) among.2)

  pub says_refines : (w : List ℕ) → SaysShown name count end outcomes stuck others_end others w → SaysRefines name count p q w
  says_refines w s = record {
    refines = refines s.whole s.each;
    outcomes = outcomes;
    are = subst (λ e. AreOutcomesOf p count e outcomes []) s.whole (subst (AreOutcomesOf p count end outcomes) s.none_stuck are);
    others = others;
    stuck = others_stuck;
    others_are = subst (λ e. AreOutcomesOf q count e others others_stuck) s.others_whole others_are;
    said = s.said;
  }

  beyond : others_end ≡ Whole → (one : ReportedOrder) → Contains outcomes one → (IsShownAmong others one.shown → ⊥) → IsBeyond p q count one
  beyond whole one among none = record {
    outcome = of_all (IsOutcomeOf p count) outcomes one are.each among;
    none = λ u is by. none (u.shown, is_listed q count others_end others others_stuck others_are whole u is, by);
  }

  pub shows_beyond : (w : List ℕ) → ShowsUnshown name count end outcomes stuck others_end others w → ShowsBeyond name count p q w
  shows_beyond w s = record { one = s.one; beyond = beyond s.others_whole s.one s.among s.none; shown = s.shown }

  abbrev pub Says : List ℕ → Type 0
  Says = SaysShown name count end outcomes stuck others_end others

  abbrev pub Shows : List ℕ → Type 0
  Shows = ShowsUnshown name count end outcomes stuck others_end others

  pub prints_refines : (status : ℕ) (old new : Option (List ℕ)) → PrintsEither Says Shows status old new → PrintsEither (SaysRefines name count p q) (ShowsBeyond name count p q) status old new
  prints_refines status old new s = prints_so Says Shows (SaysRefines name count p q) (ShowsBeyond name count p q) says_refines shows_beyond status old new s

-- the output if both lists are complete
module _ (name : List ℕ) (threads : ℕ) (end : WalkEnd) (outcomes stuck : List ReportedOrder) (others_end : WalkEnd) (others : List ReportedOrder) (status : ℕ) (old new : Option (List ℕ)) (others_whole : others_end ≡ Whole) where
  abbrev pub Said : List ℕ → Type 0
  Said = SaysShown name threads end outcomes stuck others_end others

  abbrev pub Shown : List ℕ → Type 0
  Shown = ShowsUnshown name threads end outcomes stuck others_end others

  module _ (one : ReportedOrder) (among : Contains outcomes one) (none : IsShownAmong others one.shown → ⊥) where
    unshown : (w : List ℕ) → w ≡ beyond_text name one → Shown w
    unshown w is = record { others_whole = others_whole; one = one; among = among; none = none; shown = is }

    pub prints_beyond : PrintsEither (λ (w : List ℕ). ⊥) (λ (w : List ℕ). w ≡ beyond_text name one) status old new → PrintsEither Said Shown status old new
    prints_beyond s = prints_so (λ (w : List ℕ). ⊥) (λ (w : List ℕ). w ≡ beyond_text name one) Said Shown (λ w no. absurd no) unshown status old new s

  module _ (whole : end ≡ Whole) (each : All (IsShownAmong others) (reports outcomes)) (n m : ℕ) (count : n ≡ length outcomes) (others_count : m ≡ length others) where
    all_said : (w : List ℕ) → (stuck ≡ []) × (w ≡ refined_text name n m threads) → Said w
    all_said w is = record {
      whole = whole;
      others_whole = others_whole;
      none_stuck = is.0;
      each = each;
      said = is.1 ∙ ap (λ k. refined_text name k m threads) count ∙ ap (λ k. refined_text name (length outcomes) k threads) others_count;
    }

    pub prints_all : PrintsEither (λ (w : List ℕ). (stuck ≡ []) × (w ≡ refined_text name n m threads)) (λ (w : List ℕ). ⊥) status old new → PrintsEither Said Shown status old new
    prints_all s = prints_so (λ (w : List ℕ). (stuck ≡ []) × (w ≡ refined_text name n m threads)) (λ (w : List ℕ). ⊥) Said Shown all_said (λ w no. absurd no) status old new s

-- the programs are those of two texts
module _ (text other : List ℕ) (this that : ParsedSource) (spelled : IsSourceOf text this) (accepted : ∥ IsAccepted this.program ∥₁) (other_spelled : IsSourceOf other that) (other_accepted : ∥ IsAccepted that.program ∥₁) where
  of_sources : (IsSo : Program → Program → Type 0) → IsSo this.program that.program → AreSourcesOf text other IsSo
  of_sources IsSo is = record {
    this = this;
    spelled = spelled;
    accepted = accepted;
    that = that;
    other_spelled = other_spelled;
    other_accepted = other_accepted;
    is_so = is;
  }

  module _ (name : List ℕ) (k : ℕ) where
    refines_here : (w : List ℕ) → SaysRefines name k this.program that.program w → SaysRefined name k text other w
    refines_here w is = of_sources (λ p q. SaysRefines name k p q w) is

    beyond_here : (w : List ℕ) → ShowsBeyond name k this.program that.program w → ShowsOther name k text other w
    beyond_here w is = of_sources (λ p q. ShowsBeyond name k p q w) is

    refined_tells : (status : ℕ) (old new : Option (List ℕ)) → Tells (SaysRefines name k this.program that.program) (ShowsBeyond name k this.program that.program) status old new → Tells (SaysRefined name k text other) (ShowsOther name k text other) status old new
    refined_tells = tells_so (SaysRefines name k this.program that.program) (ShowsBeyond name k this.program that.program) (SaysRefined name k text other) (ShowsOther name k text other) refines_here beyond_here

    refined_either : (w : List ℕ) → IsEither (SaysRefines name k this.program that.program) (ShowsBeyond name k this.program that.program) w → IsEither (SaysRefined name k text other) (ShowsOther name k text other) w
    refined_either = either_so (SaysRefines name k this.program that.program) (ShowsBeyond name k this.program that.program) (SaysRefined name k text other) (ShowsOther name k text other) refines_here beyond_here

  pub refined_served : (name : List ℕ) (more first status : ℕ) (old new : Option (List ℕ)) → PrintsEitherInTurn (λ k. SaysRefines name k this.program that.program) (λ k. ShowsBeyond name k this.program that.program) more first status old new → ServesEitherInTurn (λ k. SaysRefined name k text) (λ k. ShowsOther name k text) (HasNoCode text ⊎ HasNoCode other) more first (Some other) status old new
  refined_served name more first status old new s =
      serves_so s
      (says_so (λ k t b a. Tells (SaysRefines name k this.program that.program) (ShowsBeyond name k this.program that.program) t b a) (λ k t b a. Tells (SaysRefined name k text other) (ShowsOther name k text other) t b a) (refined_tells name) more first status old new)
      (part_in_turn (λ k w. IsEither (SaysRefines name k this.program that.program) (ShowsBeyond name k this.program that.program) w) (λ k w. IsEither (SaysRefined name k text other) (ShowsOther name k text other) w) (refined_either name) more first old new)

-- likewise for this many numbers of threads after the first
module _ (name : List ℕ) (text : List ℕ) (more first : ℕ) where
  abbrev pub AreRefinedTold : (bytes : List ℕ) → (status : ℕ) → (old new : Option (List ℕ)) → Type 0
  AreRefinedTold bytes status old new = SaysInTurn (λ k t b a. Tells (SaysRefined name k text bytes) (ShowsOther name k text bytes) t b a) more first status old new

  abbrev pub AreRefinedTexts : (bytes : List ℕ) → (old new : Option (List ℕ)) → Type 0
  AreRefinedTexts bytes old new = WritesPart (AreTextsInTurn (λ k w. IsEither (SaysRefined name k text bytes) (ShowsOther name k text bytes) w) more first) old new

  pub none_refined : (bytes : List ℕ) (status : ℕ) (old new : Option (List ℕ)) → status ≢ 0 → status ≢ 5 → AreRefinedTold bytes status old new
  none_refined bytes status old new no_zero no_five =
      stops (λ k t b a. Tells (SaysRefined name k text bytes) (ShowsOther name k text bytes) t b a) more first status old new no_zero
      (tells_nothing (SaysRefined name first text bytes) (ShowsOther name first text bytes) status old new no_zero no_five)

  nothing_refined : (known : Option (List ℕ)) (status : ℕ) (old new : Option (List ℕ)) → status ≢ 0 → status ≢ 5 → IfSome known (λ bytes. AreRefinedTold bytes status old new)
  nothing_refined known status old new no_zero no_five = known_all (λ bytes. AreRefinedTold bytes status old new) (λ bytes. none_refined bytes status old new no_zero no_five) known

  pub unread_refined : {IsOne : Type 0} (known : Option (List ℕ)) (status : ℕ) (old new : Option (List ℕ)) → (status ≡ 1) × IsOne ⊎ (status ≡ 2) ⊎ (status ≡ 4) → IfSome known (λ bytes. AreRefinedTold bytes status old new)
  unread_refined known status old new (inl one) = nothing_refined known status old new (λ z. absurd (omega (arith, one.0, z))) (λ z. absurd (omega (arith, one.0, z)))
  unread_refined known status old new (inr is) = nothing_refined known status old new (not_zero status is) (not_five status is)

  pub nothing_refined_written : (known old new : Option (List ℕ)) → new ≡ old → IfSome known (λ bytes. AreRefinedTexts bytes old new)
  nothing_refined_written known old new same = known_all (λ bytes. AreRefinedTexts bytes old new) (λ bytes. inl same) known

pub other_lacks : (text : List ℕ) (known : Option (List ℕ)) (status : ℕ) → (status ≡ 1) × IfSome known (λ bytes. IsRefused bytes) ⊎ (status ≡ 2) ⊎ (status ≡ 4) → status ≡ 1 → HasNoCode text ⊎ IfSome known (λ bytes. HasNoCode bytes)
other_lacks text known status is e = inr (known_so (λ bytes. IsRefused bytes) (λ bytes. HasNoCode bytes) refused_text known (unread_refused status is e))
