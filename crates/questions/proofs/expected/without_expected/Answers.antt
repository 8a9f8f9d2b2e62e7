use Rattle.questions.proofs.More.{cut_by}
use Rattle.questions.proofs.expected.without_expected.Goals as goal

pub returns-in-Fails : goal.returns-in-Fails
returns-in-Fails c = cut_by c.args.words.now c.answer_expected.result c.answer_expected.ensures c.in-Fails.is
