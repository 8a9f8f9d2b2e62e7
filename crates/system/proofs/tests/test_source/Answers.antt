use Rattle.std.proofs.Common.{map}
use Rattle.questions.specs.Questions.{questions_of}
use Rattle.system.proofs.Testing.{all_questions, next_question}
use Rattle.system.proofs.tests.test_source.Goals as goal

pub questions-preserved : goal.questions-preserved
questions-preserved g c = (
  λ all. c.questions.invariant.0 (c.with-tally.ensures.before all),
  λ all. next_question (g.F.Files.contents c.args.source.now.files.now) c.args.source.now.name.now c.args.source.now.bytes.now (λ q. (q.line, map (λ w. w.now) q.words.items)) _ c.questions.question-index c.question-item.result c.question-item.is c.questions-test.true (c.questions.invariant.1 (c.with-tally.ensures.before all)) (c.in_ok-verdict.ensures (c.with-tally.ensures.this all)),
)

pub returns-clause-passed : goal.returns-clause-passed
returns-clause-passed g c = λ all. all_questions (g.F.Files.contents c.args.source.now.files.now) c.args.source.now.name.now c.args.source.now.bytes.now (λ q. (q.line, map (λ w. w.now) q.words.items)) c.as_slice-question-items.result.now _ c.questions.question-index (questions_of c.args.source.now.bytes.now) c.questions-test.false c.as_slice-question-items.ensures.value c.in_ok-questions.ensures (c.questions.invariant.1 all)
