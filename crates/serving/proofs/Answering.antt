-- The meaning of a status for properties.
use Rattle.std.proofs.Common.{◌≡◌, ◌≢◌, ◌⊎◌, inl, ◌-◌, ℕ, Bool, true, false, List, [], ◌∷◌, ◌++◌, ◌<◌, All, Contains, Option, Some, map, length, get_or, ap, refl, sym, subst, arith}
use Rattle.std.specs.Prelude.{◌||◌}
use Rattle.std.specs.List.{list_any}
use Rattle.std.specs.Io.KnownBytes.{Appends}
use Rattle.std.proofs.lemmas.List.{get_or-map, length-map}
use Rattle.std.proofs.lemmas.List.Elements.{All-append, All-contains, All-map, Contains-append_left, Contains-append_right}
use Rattle.syntax.specs.Tree.{Program}
use Rattle.syntax.specs.Grammar.{ParsedSource}
use Rattle.separation.specs.Touching.{IsAccepted}
use Rattle.meaning.specs.InOrder.{IsFaultOfOrder}
use Rattle.meaning.specs.declared.outcome.MeaningFault.{MeaningFault}
use Rattle.meaning.specs.declared.outcome.MeaningFault.TheVariants as fault
use Rattle.command.specs.declared.request.Questions.{Questions}
use Rattle.report.specs.OutcomeList.{ReportedOrder}
use Rattle.report.specs.Properties.{Finding, Property, properties_text}
use Rattle.report.specs.PropertyViews.{property_of}
use Rattle.report.specs.declared.outcome_list.WalkEnd.{WalkEnd}
use Rattle.report.specs.declared.outcome_list.WalkEnd.TheVariants.{Whole}
use Rattle.report.specs.declared.properties.Property.{Property as Own}
use Rattle.serving.specs.Checks.{IsSourceOf}
use Rattle.serving.specs.Askable.{IsAskable}
use Rattle.serving.specs.Properties.{AreAnswered, AreAskable, AreFoundOfText, HasUnaskable, IsAsked, IsTextOfProperties, IsUnaskable, TellsProperties, asked_by, asked_each, has_failed, has_unheld}
use Rattle.serving.specs.Written.{WritesPart}
use Rattle.serving.specs.inner.Properties.{AreThese}
use Rattle.serving.specs.inner.Serves.{PrintsProperties, PrintsPropertiesInTurn, ServesQuestions}
use Rattle.serving.proofs.InTurn.{part_in_turn, says_so}
use Rattle.serving.proofs.Parts.{part_so}
use Rattle.serving.proofs.Printing.{serves_so}
use Rattle.serving.proofs.Verdicts.{at_most_five, not_five, not_one, not_zero}

-- ---- findings by one definition are findings by another

module _ (threads : ℕ) (Is Are : WalkEnd → List Property → List ReportedOrder → Type 0) (so : (end : WalkEnd) (ps : List Property) (ss : List ReportedOrder) → Is end ps ss → Are end ps ss) where
  tells_so : (status : ℕ) (old new : Option (List ℕ)) → TellsProperties threads Is status old new → TellsProperties threads Are status old new
  tells_so status old new tells = record {
    held = λ e. let h = tells.held e in (h.0, so Whole h.0 [] h.1, h.2, h.3);
    failed = λ e. let f = tells.failed e in (f.0, f.1, f.2, so f.2 f.0 f.1 f.3, f.4, f.5);
  }

  text_so : (written : List ℕ) → IsTextOfProperties threads Is written → IsTextOfProperties threads Are written
  text_so written is = (is.0, is.1, is.2, so is.2 is.0 is.1 is.3, is.4)

  parts_so : (old new : Option (List ℕ)) → WritesPart (IsTextOfProperties threads Is) old new → WritesPart (IsTextOfProperties threads Are) old new
  parts_so old new = part_so (IsTextOfProperties threads Is) (IsTextOfProperties threads Are) old new text_so

  pub prints_so : (status : ℕ) (old new : Option (List ℕ)) → PrintsProperties threads Is status old new → PrintsProperties threads Are status old new
  prints_so status old new s = serves_so s (tells_so status old new) (parts_so old new)

-- findings for an accepted program are findings for the text that spells it
module _ (questions : Questions) (text : List ℕ) (source : ParsedSource) (spelled : IsSourceOf text source) (accepted : ∥ IsAccepted source.program ∥₁) where
  abbrev pub Theirs : ℕ → WalkEnd → List Property → List ReportedOrder → Type 0
  Theirs n = AreAnswered source.program n questions.steps (asked_by questions)

  found_of_text : (n : ℕ) (end : WalkEnd) (ps : List Property) (ss : List ReportedOrder) → Theirs n end ps ss → AreFoundOfText questions text n end ps ss
  found_of_text n end ps ss are = record { source = source; spelled = spelled; accepted = accepted; are = are }

  pub serves_text : (status : ℕ) (old new : Option (List ℕ)) → PrintsPropertiesInTurn Theirs (questions.threads.last - questions.threads.first) questions.threads.first status old new → ServesQuestions questions (Some text) status old new
  serves_text status old new s =
      serves_so s
      (says_so (λ k t b a. TellsProperties k (Theirs k) t b a) (λ k t b a. TellsProperties k (AreFoundOfText questions text k) t b a) (λ k. tells_so k (Theirs k) (AreFoundOfText questions text k) (found_of_text k))
      (questions.threads.last - questions.threads.first) questions.threads.first status old new)
      (part_in_turn (λ k w. IsTextOfProperties k (Theirs k) w) (λ k w. IsTextOfProperties k (AreFoundOfText questions text k) w) (λ k. text_so k (Theirs k) (AreFoundOfText questions text k) (found_of_text k))
      (questions.threads.last - questions.threads.first) questions.threads.first old new)

-- findings for equal names
pub prints_asked : (p : Program) (steps : ℕ) (asked names : List IsAsked) (more first status : ℕ) (old new : Option (List ℕ)) → asked ≡ names → PrintsPropertiesInTurn (λ n. AreAnswered p n steps asked) more first status old new → PrintsPropertiesInTurn (λ n. AreAnswered p n steps names) more first status old new
prints_asked p steps asked names more first status old new same = subst (λ xs. PrintsPropertiesInTurn (λ n. AreAnswered p n steps xs) more first status old new) same

-- ---- a status that reports nothing

pub tells_nothing : {threads : ℕ} (Are : WalkEnd → List Property → List ReportedOrder → Type 0) (status : ℕ) (old new : Option (List ℕ)) → status ≢ 0 → status ≢ 5 → TellsProperties threads Are status old new
tells_nothing Are status old new zero five = record { held = λ e. absurd (zero e); failed = λ e. absurd (five e) }

-- a refusal
pub refused_prints : {threads : ℕ} (Are : WalkEnd → List Property → List ReportedOrder → Type 0) (status : ℕ) (old new : Option (List ℕ)) → (status ≡ 2) ⊎ (status ≡ 4) → new ≡ old → PrintsProperties threads Are status old new
refused_prints Are status old new is same = record {
  within = at_most_five status is;
  answers = tells_nothing Are status old new (not_zero status is) (not_five status is);
  refused = not_one status is;
  written = inl same;
  untouched = λ e. same;
}

-- ---- the output

module _ (end : WalkEnd) (properties : List Property) (stuck : List ReportedOrder) where
  pub tells_these : (threads status : ℕ) (old new : Option (List ℕ)) (text : List ℕ) → text ≡ properties_text properties stuck threads end → Appends old new text → (status ≡ 0 → end ≡ Whole) → (status ≡ 0 → has_unheld properties ≡ false) → (status ≡ 0 → stuck ≡ []) → (status ≡ 5 → has_failed properties ≡ true) → TellsProperties threads (AreThese end properties stuck) status old new
  tells_these threads status old new text is writes whole held none failed = record {
    held = λ e. (
      properties,
      (sym (whole e), refl, sym (none e)),
      held e,
      subst (λ ss. Appends old new (properties_text properties ss threads Whole)) (none e) (subst (λ w. Appends old new (properties_text properties stuck threads w)) (whole e) (subst (Appends old new) is writes)),
    );
    failed = λ e. (properties, stuck, end, (refl, refl, refl), failed e, subst (Appends old new) is writes);
  }

  pub text_of_these : (threads : ℕ) (text : List ℕ) → text ≡ properties_text properties stuck threads end → IsTextOfProperties threads (AreThese end properties stuck) text
  text_of_these threads text is = (properties, stuck, end, (refl, refl, refl), is)

  -- a fact about the properties holds of the reports about them
  pub these_so : (Are : WalkEnd → List Property → List ReportedOrder → Type 0) → Are end properties stuck → (e : WalkEnd) (ps : List Property) (ss : List ReportedOrder) → AreThese end properties stuck e ps ss → Are e ps ss
  these_so Are are e ps ss same = subst (λ z. Are z ps ss) (sym same.0) (subst (λ x. Are end x ss) (sym same.1) (subst (Are end properties) (sym same.2) are))

-- ---- names that can be properties, and others

module _ (p : Program) where
  each_askable : (last : Bool) (names : List (List ℕ)) → All (IsAskable p) names → AreAskable p (asked_each last names)
  each_askable last names all = All-map (λ (a : IsAsked). IsAskable p a.0) (λ x. (x, last)) names all

  asked_there : (last : Bool) (names : List (List ℕ)) (k : ℕ) (d : List ℕ) → k < length names → Contains (asked_each last names) (get_or names k d, last)
  asked_there last names k d below =
      let make : List ℕ → IsAsked = λ x. (x, last) in
      let long = length-map names make in
      (k, omega (arith, below, long), get_or-map make names k d (get_or names k d, last) below)

  pub both_askable : (always last : List (List ℕ)) → All (IsAskable p) always → All (IsAskable p) last → AreAskable p (asked_each false always ++ asked_each true last)
  both_askable always last all these =
      All-append (λ (a : IsAsked). IsAskable p a.0) (asked_each false always) (asked_each true last) (each_askable false always all) (each_askable true last these)

  module _ (always last : List (List ℕ)) where
    abbrev asked : List IsAsked
    asked = asked_each false always ++ asked_each true last

    there_askable : (a : IsAsked) → AreAskable p asked → Contains asked a → IsAskable p a.0
    there_askable a all there = All-contains (λ (x : IsAsked). IsAskable p x.0) asked a all there

    pub always_unaskable : (All (IsAskable p) always → ⊥) → HasUnaskable p asked
    always_unaskable not all = not (λ k d below.
        there_askable (get_or always k d, false) all (Contains-append_left (asked_each false always) (asked_each true last) (get_or always k d, false) (asked_there false always k d below)))

    pub last_unaskable : (All (IsAskable p) last → ⊥) → HasUnaskable p asked
    last_unaskable not all = not (λ k d below.
        there_askable (get_or last k d, true) all (Contains-append_right (asked_each false always) (asked_each true last) (get_or last k d, true) (asked_there true last k d below)))

pub unaskable_text : (questions : Questions) (text : List ℕ) (source : ParsedSource) → IsSourceOf text source → ∥ IsAccepted source.program ∥₁ → HasUnaskable source.program (asked_by questions) → IsUnaskable questions text
unaskable_text questions text source spelled accepted has = record {
  source = source;
  spelled = spelled;
  accepted = accepted;
  has = has;
}

-- a fault of the number of threads, or of memory, is reported by the status 4
pub not_unusable : (threads : ℕ) (f : MeaningFault) (status : ℕ) → IsFaultOfOrder threads [] f → (f ≡ fault.OutOfMemory → status ≡ 4) → (f ≡ fault.WrongThreads → status ≡ 4) → status ≢ 2
not_unusable threads fault.OutOfMemory status is memory wrong = λ two. absurd (let e = memory refl in omega (arith, e, two))
not_unusable threads fault.Stranger status is memory wrong = absurd (is.1 (λ k d below. absurd (omega (arith, below))))
not_unusable threads fault.WrongThreads status is memory wrong = λ two. absurd (let e = wrong refl in omega (arith, e, two))

-- ---- tests of properties

pub any_property : {A : Type 0} (test : Finding → Bool) (rs : List (Own A)) → list_any (λ (r : Property). test r.finding) (map property_of rs) ≡ list_any (λ (r : Own A). test (property_of r).finding) rs
any_property test [] = refl
any_property test (r ∷ rs) = ap (λ b. test (property_of r).finding || b) (any_property test rs)
