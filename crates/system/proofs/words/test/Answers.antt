use Rattle.std.proofs.Common.{subst}
use Rattle.system.specs.Kept.{kept_in}
use Rattle.system.specs.Tests.{AnswersTests}
use Rattle.system.proofs.Unread.{unread_tested}
use Rattle.system.proofs.words.test.Goals as goal

pub returns-in-Ok-clause-answer : goal.returns-in-Ok-clause-answer
returns-in-Ok-clause-answer g c =
    subst (λ files. AnswersTests (g.F.Files.contents c.args.files.now) c.args.tests.now (kept_in files) c.test_kept-served.result.status) c.as_slice-in-Ok.ensures.value c.test_kept-served.ensures.answer

pub returns-in-Err-clause-answer : goal.returns-in-Err-clause-answer
returns-in-Err-clause-answer g c = unread_tested (g.F.Files.contents c.args.files.now) c.args.tests.now (kept_in c.new-in-Err.result.items) c.in-Err.status c.in-Err.ensures.status
