-- Tests of ends, over the threads that a report shows.
use Rattle.std.proofs.Common.{◌≡◌, ◌≢◌, ◌≤◌, ◌⊎◌, inl, inr, ℕ, Bool, true, false, List, [], ◌∷◌, ◌||◌, ◌∙◌, map, refl, ap, ap₂, arith}
use Rattle.std.specs.List.{list_any}
use Rattle.std.specs.Prelude.{if◌then◌else◌}
use Rattle.report.specs.declared.printed.End.{End}
use Rattle.report.specs.declared.pieces.ThreadSeen.{ThreadSeen}
use Rattle.report.specs.declared.printed.ThreadShown.{ThreadShown}
use Rattle.report.specs.Printed as plain
use Rattle.report.specs.declared.outcome_list.ReportedOrder.{ReportedOrder}
use Rattle.report.specs.OutcomeList as lists
use Rattle.report.specs.Pieces.{seen_of}
use Rattle.report.specs.Views.{reported_of}
use Rattle.report.specs.Views.{thread_of}
use Rattle.serving.specs.Reports.{exit_status, has_stopped, has_trapped}

pub any_shown : {A : Type 0} (p : End → Bool) (threads : List (ThreadShown A)) → list_any (λ (t : plain.ThreadShown). p t.end) (map thread_of threads) ≡ list_any (λ (t : ThreadShown A). p t.end) threads
any_shown p [] = refl
any_shown p (t ∷ threads) = ap (λ b. p t.end || b) (any_shown p threads)

-- also if their texts are stored elsewhere
pub any_seen : (p : End → Bool) (threads : List ThreadSeen) → list_any (λ (t : plain.ThreadShown). p t.end) (map seen_of threads) ≡ list_any (λ (t : ThreadSeen). p t.end) threads
any_seen p [] = refl
any_seen p (t ∷ threads) = ap (λ b. p t.end || b) (any_seen p threads)

-- also over outcomes
pub any_outcome : {A : Type 0} (outcomes : List (ReportedOrder A)) → list_any (λ (o : lists.ReportedOrder). has_trapped o.shown) (map reported_of outcomes) ≡ list_any (λ (o : ReportedOrder A). has_trapped (reported_of o).shown) outcomes
any_outcome [] = refl
any_outcome (o ∷ outcomes) = ap (λ b. has_trapped (reported_of o).shown || b) (any_outcome outcomes)

-- if the status is 0 or 3, no thread has stopped
none_by : (stopped trapped : Bool) (status : ℕ) → (status ≡ 0) ⊎ (status ≡ 3) → status ≡ (if stopped then 4 else if trapped then 3 else 0) → stopped ≡ false
none_by false trapped status is e = refl
none_by true trapped status (inl is) e = absurd (omega (arith, is, e))
none_by true trapped status (inr is) e = absurd (omega (arith, is, e))

pub none_stopped : (status : ℕ) (shown : plain.Printed) → (status ≡ 0) ⊎ (status ≡ 3) → status ≡ exit_status shown → has_stopped shown ≡ false
none_stopped status shown is e = none_by (has_stopped shown) (has_trapped shown) status is e

-- the status by both tests is that of the report
pub status_shown : (shown : plain.Printed) (stopped trapped : Bool) (status : ℕ) → status ≡ (if stopped then 4 else if trapped then 3 else 0) → stopped ≡ has_stopped shown → trapped ≡ has_trapped shown → status ≡ exit_status shown
status_shown shown stopped trapped status is e f = is ∙ ap₂ (λ s t. if s then 4 else if t then 3 else 0) e f

-- it is not that of a refusal, and at most that of a stopped thread
pub few_shown : (stopped trapped : Bool) (status : ℕ) → status ≡ (if stopped then 4 else if trapped then 3 else 0) → status ≤ 4
few_shown true trapped status is = omega (arith, is)
few_shown false true status is = omega (arith, is)
few_shown false false status is = omega (arith, is)

pub none_refused : (stopped trapped : Bool) (status : ℕ) → status ≡ (if stopped then 4 else if trapped then 3 else 0) → status ≢ 1
none_refused true trapped status is = λ one. absurd (omega (arith, is, one))
none_refused false true status is = λ one. absurd (omega (arith, is, one))
none_refused false false status is = λ one. absurd (omega (arith, is, one))
