use Rattle.std.proofs.Common.{[], Some, subst, sym}
use Rattle.system.specs.Kept.{kept_in}
use Rattle.system.specs.Words.{AnswersWords}
use Rattle.system.proofs.words.tell_fault.Goals as goal

pub returns-clause-answer : goal.returns-clause-answer
returns-clause-answer g c = λ all words is.
    subst (λ files. AnswersWords all words (kept_in files) c.tell_recorded-served.result.status (Some []) (Some c.tell_recorded-served.result.printed.bytes)) (sym c.new.ensures.items) (c.tell_recorded-served.ensures.answer all words is)
