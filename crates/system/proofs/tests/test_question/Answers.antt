use Rattle.std.proofs.Common.{◌∙◌, ap, map}
use Rattle.questions.specs.Questions.{expected_of, without_expected}
use Rattle.system.proofs.Testing.{question_passed}
use Rattle.system.proofs.tests.test_question.Goals as goal

pub returns : goal.returns
returns g c = λ passed.
    let same = c.as_slice-words.ensures.value in
    question_passed _ _ _ (map (λ w. w.now) c.args.question.now.words.items) _ c.answer_expected-expected.result c.answer_question-answer.result.status
    (c.without_expected.ensures ∙ ap (λ ws. without_expected (map (λ w. w.now) ws)) same)
    (c.answer_expected-expected.ensures ∙ ap (λ ws. expected_of (map (λ w. w.now) ws)) same)
    (c.judge-verdict.ensures passed) (c.answer_question-answer.ensures _ c.in-Ok.ensures)
