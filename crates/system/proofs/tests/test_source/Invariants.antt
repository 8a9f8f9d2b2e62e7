use Rattle.std.proofs.Common.{map, take}
use Rattle.system.specs.Tests.{AreQuestionsPassed}
use Rattle.verdicts.specs.Verdicts.{HaveAllPassed}
use Rattle.system.proofs.tests.test_source.Given as goal

-- if all questions have passed, so have the earlier ones and the questions so far
abbrev pub invariant-questions : goal.invariant-questions
invariant-questions g l = (HaveAllPassed l.tally → HaveAllPassed l.fn.before) × (HaveAllPassed l.tally → AreQuestionsPassed (g.F.Files.contents l.source.files.now) l.source.name.now l.source.bytes.now (map (λ q. (q.line, map (λ w. w.now) q.words.items)) (take l.question-index l.question-items)))
