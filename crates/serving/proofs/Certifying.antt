-- Verdicts on reports.
use Rattle.std.proofs.Common.{◌≡◌, ◌≢◌, inl, ℕ, ◌+◌, false, List, [], ◌∷◌, Option, None, Some, ◌∙◌, ap, ap₂, refl, sym, subst, arith}
use Rattle.lex.specs.Pieces.{IsLexed}
use Rattle.lex.specs.Tokens.{Tok}
use Rattle.syntax.specs.Grammar.{ParsedSource, Spells}
use Rattle.syntax.specs.Names.{initial_memory}
use Rattle.syntax.specs.Orders.{in_order}
use Rattle.syntax.specs.Threads.{thread}
use Rattle.syntax.specs.Tree.{Program}
use Rattle.separation.specs.Touching.{IsAccepted}
use Rattle.command.specs.Asked.{AreThreads, IsListedOrder, words_listed}
use Rattle.command.specs.declared.request.Claim.{Claim}
use Rattle.serving.specs.Certified.{CertifiesReport, IsPrintedInOrder, OneReportIsPrinted, SaysSo, ShowsDifference, WritesVerdict}
use Rattle.serving.specs.Checks.{Accepts, IsSourceOf}
use Rattle.states.specs.Shown.{NoneIsSpent, told_in}
use Rattle.states.proofs.Later.{ticks_add_nothing}
use Rattle.serving.specs.Orders.{IsOrderWith, IsUnspentOrder, RunsInOrderWith}
use Rattle.serving.specs.Reports.{has_spent}
use Rattle.serving.proofs.ListedOutcomes.{none_spent}
use Rattle.serving.specs.Refusals.{IsRefused}
use Rattle.serving.specs.Shows.{order_shown}
use Rattle.serving.specs.Verdicts.{IsEither, Tells}
use Rattle.report.specs.Printed.{Printed}
use Rattle.report.specs.Report.{report_text}
use Rattle.serving.specs.Written.{IsReportOf, WritesPart}
use Rattle.serving.specs.inner.Serves.{ServesClaim, ServesVerdict}
use Rattle.serving.proofs.Verdicts.{either_served, known_all, tells_nothing}
use Rattle.std.specs.Prelude.{IfSome}

-- ---- a verdict by one expected report is one by another

module _ (IsDue Is : List ℕ → Type 0) (so : (text : List ℕ) → IsDue text → Is text) where
  says_due : (found w : List ℕ) → SaysSo IsDue found w → SaysSo Is found w
  says_due found w s = (so found s.0, s.1)

  shows_due : (found w : List ℕ) → ShowsDifference IsDue found w → ShowsDifference Is found w
  shows_due found w d = (d.0, d.1, so d.0 d.2, d.3, d.4)

  pub due_served : (Refuses : Type 0) (known : Option (List ℕ)) (status : ℕ) (old new : Option (List ℕ)) → ServesVerdict IsDue ⊥ known status old new → ServesVerdict Is Refuses known status old new
  due_served Refuses known status old new s = either_served (SaysSo IsDue) (ShowsDifference IsDue) (SaysSo Is) (ShowsDifference Is) says_due shows_due Refuses known status old new s

-- ---- a status that reports no verdict

pub no_claim_verdict : (claim : Claim) (listed report : Option (List ℕ)) (text : List ℕ) (status : ℕ) (old new : Option (List ℕ)) → status ≢ 0 → status ≢ 5 → CertifiesReport claim listed report text status old new
no_claim_verdict claim None report text status old new zero five = tt
no_claim_verdict claim (Some bytes) report text status old new zero five =
    let due = IsPrintedInOrder claim bytes text in
    known_all (λ found. Tells (SaysSo due found) (ShowsDifference due found) status old new) (λ found. tells_nothing (SaysSo due found) (ShowsDifference due found) status old new zero five) report

pub nothing_claimed : (claim : Claim) (listed report : Option (List ℕ)) (text : List ℕ) (old new : Option (List ℕ)) → new ≡ old → WritesVerdict claim listed report text old new
nothing_claimed claim None report text old new same = tt
nothing_claimed claim (Some bytes) report text old new same =
    let due = IsPrintedInOrder claim bytes text in
    known_all (λ found. WritesPart (IsEither (SaysSo due found) (ShowsDifference due found)) old new) (λ found. inl same) report

-- the report of an accepted program in an order is that of its text
printed_in_order : (claim : Claim) (bytes text order : List ℕ) (source : ParsedSource) → IsListedOrder bytes order → IsSourceOf text source → ∥ IsAccepted source.program ∥₁ → (written : List ℕ) → IsReportOf (IsOrderWith source.program claim.threads claim.ticks order) written → IsPrintedInOrder claim bytes text written
printed_in_order claim bytes text order source lists spelled accepted written is =
    let run : RunsInOrderWith claim.threads claim.ticks order text is.0 = record { source = source; spelled = spelled; run = is.1 } in
    let accepts : Accepts text = record { source = source; spelled = spelled; accepted = accepted } in
    (order, lists, (is.0, (run, accepts), is.2))

pub claim_served : (claim : Claim) (listed report : Option (List ℕ)) (text order : List ℕ) (source : ParsedSource) (status : ℕ) (old new : Option (List ℕ)) → IfSome listed (λ bytes. IsListedOrder bytes order) → IsSourceOf text source → ∥ IsAccepted source.program ∥₁ → ServesVerdict (IsReportOf (IsOrderWith source.program claim.threads claim.ticks order)) ⊥ report status old new → ServesClaim claim listed report (Some text) status old new
claim_served claim None report text order source status old new lists spelled accepted s = record {
  within = s.within;
  answers = tt;
  refused = λ e. absurd (s.refused e);
  written = tt;
  untouched = s.untouched;
}
claim_served claim (Some bytes) report text order source status old new lists spelled accepted s =
    due_served (IsReportOf (IsOrderWith source.program claim.threads claim.ticks order)) (IsPrintedInOrder claim bytes text) (printed_in_order claim bytes text order source lists spelled accepted) (IsRefused text) report status old new s

-- ---- the report of an order

-- an order in which no thread is spent leaves the same with any more ticks
spends_none : (p : Program) (count : ℕ) (order : List ℕ) (shown : Printed) (r : IsUnspentOrder p count order shown) → NoneIsSpent (told_in p count r.ticks order)
spends_none p count order shown r = none_spent p count r.ticks order (subst (λ (x : Printed). has_spent x ≡ false) r.run.shows r.unspent)

one_shown : (p : Program) (count : ℕ) (ticks : Option ℕ) (order : List ℕ) (a b : Printed) → IsOrderWith p count ticks order a → IsOrderWith p count ticks order b → a ≡ b
one_shown p count (Some n) order a b r s = r.shows ∙ sym s.shows
one_shown p count None order a b r s =
    let one = ticks_add_nothing p count r.ticks s.ticks order r.run.named (spends_none p count order a r) in
    let other = ticks_add_nothing p count s.ticks r.ticks order s.run.named (spends_none p count order b s) in
    let sum : r.ticks + s.ticks ≡ s.ticks + r.ticks = omega arith in
    r.run.shows
    ∙ ap (order_shown p) (sym one ∙ ap (λ n. in_order (thread p) (initial_memory p) count n order) sum ∙ other)
    ∙ sym s.run.shows

-- words are the numbers of one order
one_order : (words : List (List ℕ)) (a b : List ℕ) → AreThreads words a → AreThreads words b → a ≡ b
one_order [] [] [] x y = refl
one_order [] [] (m ∷ b) x y = absurd y
one_order [] (n ∷ a) b x y = absurd x
one_order (w ∷ ws) [] b x y = absurd x
one_order (w ∷ ws) (n ∷ a) [] x y = absurd y
one_order (w ∷ ws) (n ∷ a) (m ∷ b) x y = ap₂ (λ p q. p ∷ q) (sym x.0.1 ∙ y.0.1) (one_order ws a b x.1 y.1)

module _ (one_tokens : (text : List ℕ) (ts us : List Tok) → IsLexed text ts → IsLexed text us → ts ≡ us) (one_tree : (ts : List Tok) (a b : ParsedSource) → Spells a ts → Spells b ts → a ≡ b) where
  one_source : (text : List ℕ) (a b : ParsedSource) → IsSourceOf text a → IsSourceOf text b → a ≡ b
  one_source text a b is is' =
      one_tree is.tokens a b is.spelled (subst (Spells b) (one_tokens text is'.tokens is.tokens is'.lexed is.lexed) is'.spelled)

  one_run : (count : ℕ) (ticks : Option ℕ) (order other text : List ℕ) (a b : Printed) → order ≡ other → RunsInOrderWith count ticks order text a → RunsInOrderWith count ticks other text b → a ≡ b
  one_run count ticks order other text a b same r s =
      one_shown s.source.program count ticks other a b
      (subst (λ (x : ParsedSource). IsOrderWith x.program count ticks other a) (one_source text r.source s.source r.spelled s.spelled) (subst (λ o. IsOrderWith r.source.program count ticks o a) same r.run)) s.run

  pub one_report : OneReportIsPrinted
  one_report claim listed text one other p q =
      let r = p.2 in
      let s = q.2 in
      r.2 ∙ ap report_text (one_run claim.threads claim.ticks p.0 q.0 text r.0 s.0 (one_order (words_listed listed) p.0 q.0 p.1 q.1) r.1.0 s.1.0) ∙ sym s.2
