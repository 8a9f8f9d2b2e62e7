use Rattle.std.proofs.Common.{◌≡◌, ◌∙◌, [], get_or, map, take, sym, subst}
use Rattle.std.proofs.lemmas.List.{map_more}
use Rattle.questions.specs.Questions.{expected_of}
use Rattle.questions.proofs.More.{last_says}
use Rattle.questions.proofs.expected.answer_expected.Goals as goal

pub words-preserved : goal.words-preserved
words-preserved c =
    let so_far = map (λ w. w.now) (take c.words.word-index c.args.words.now) in
    let word = get_or c.args.words.now c.words.word-index (record { ref_ptr = (0, 0); now = [] }) in
    subst (λ ws. c.expected_by-expected.result ≡ expected_of ws) (sym (map_more (λ w. w.now) c.args.words.now c.words.word-index (record { ref_ptr = (0, 0); now = [] }) c.words-test.true))
    (c.expected_by-expected.ensures ∙ last_says so_far word.now)
