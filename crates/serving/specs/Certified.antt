-- Certifying a report: whether it is the one that the source prints in an order of threads.
use Rattle.std.specs.Prelude.{◌≡◌, ℕ, List, Option, IfSome, codes}
use Rattle.command.specs.Asked.{IsListedOrder}
use Rattle.command.specs.declared.request.Claim.{Claim}
use Rattle.differences.specs.Texts.{IsFirstDifference, difference_text}
use Rattle.serving.specs.Checks.{Accepts}
use Rattle.serving.specs.Orders.{RunsInOrderWith}
use Rattle.serving.specs.Verdicts.{IsEither, Tells}
use Rattle.serving.specs.Written.{IsReportOf, WritesPart}

module _ (IsDue : List ℕ → Type 0) (found : List ℕ) where
  -- the output reports that a text is the expected one
  abbrev pub SaysSo : List ℕ → Type 0
  SaysSo written = IsDue found × (written ≡ codes "certified\n")

  -- the output shows the first line in which it differs from an expected one
  abbrev pub ShowsDifference : List ℕ → Type 0
  ShowsDifference written = (due : List ℕ) × (at : ℕ) × IsDue due × IsFirstDifference due found at
      × (written ≡ difference_text (codes "source") (codes "report") due found at)

-- what the source prints in the order that a text lists, with the ticks that are given or as many as it takes
abbrev pub IsPrintedInOrder : Claim → (listed text : List ℕ) → (written : List ℕ) → Type 0
IsPrintedInOrder claim listed text written = (order : List ℕ) × IsListedOrder listed order
    × IsReportOf (λ shown. RunsInOrderWith claim.threads claim.ticks order text shown × Accepts text) written

-- the source prints one report in the order that a text lists
abbrev pub OneReportIsPrinted : Type 0
OneReportIsPrinted = (claim : Claim) (listed text one other : List ℕ) →
    IsPrintedInOrder claim listed text one → IsPrintedInOrder claim listed text other → one ≡ other

-- a claim, if these are the bytes of the source, of the order and of the report
abbrev pub CertifiesReport : Claim → (listed report : Option (List ℕ)) → (text : List ℕ) → (status : ℕ) →
    (old new : Option (List ℕ)) → Type 0
CertifiesReport claim listed report text status old new = IfSome listed (λ bytes. IfSome report
    (λ found. Tells (SaysSo (IsPrintedInOrder claim bytes text) found)
    (ShowsDifference (IsPrintedInOrder claim bytes text) found) status old new))

-- what is written for it, for any exit status
abbrev pub WritesVerdict : Claim → (listed report : Option (List ℕ)) → (text : List ℕ) →
    (old new : Option (List ℕ)) → Type 0
WritesVerdict claim listed report text old new = IfSome listed (λ bytes. IfSome report
    (λ found. WritesPart (IsEither (SaysSo (IsPrintedInOrder claim bytes text) found)
    (ShowsDifference (IsPrintedInOrder claim bytes text) found)) old new))
