use Rattle.std.proofs.Common.{◌≡◌, drop, ap, ◌∙◌}
use Rattle.lex.proofs.steps.Steps.{comment_step, open_step}
use Rattle.lex.proofs.comment.comment.Goals as goal

pub returns-in-Some : goal.returns-in-Some
returns-in-Some c =
    let e : c.split_at.result.1.now ≡ drop c.args.at c.args.text.now = c.split_at.ensures.back ∙ ap (drop c.args.at) c.as_bytes.ensures.value in
    comment_step c.args.text.now c.split_at.result.1.now c.args.at c.in-Some.k e c.requires.begins.0 c.requires.begins.1 c.in-Some.ensures

pub returns-in-None : goal.returns-in-None
returns-in-None c =
    let e : c.split_at.result.1.now ≡ drop c.args.at c.args.text.now = c.split_at.ensures.back ∙ ap (drop c.args.at) c.as_bytes.ensures.value in
    open_step c.args.text.now c.split_at.result.1.now c.args.at e c.requires.within c.requires.begins.0 c.requires.begins.1 c.in-None.ensures
