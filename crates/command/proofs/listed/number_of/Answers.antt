use Rattle.std.proofs.Common.{ℕ, subst}
use Rattle.std.specs.Prelude.{MatchOption}
use Rattle.command.specs.Asked.{IsDecimal}
use Rattle.command.proofs.OrderWords.{decimal_is_text}
use Rattle.command.proofs.listed.number_of.Goals as goal

pub returns-in-Ok : goal.returns-in-Ok
returns-in-Ok c = subst (λ w. MatchOption c.thread_number.result ((n : ℕ) → IsDecimal w n → ⊥) (IsDecimal w)) c.in-Ok.ensures.cases.0 c.thread_number.ensures

pub returns-in-Err : goal.returns-in-Err
returns-in-Err c = λ n is. c.in-Err.ensures.cases.0 (decimal_is_text _ n is)
