use Rattle.std.proofs.Common.{◌≡◌, drop, ap, ◌∙◌}
use Rattle.lex.proofs.steps.Steps.{line_step}
use Rattle.lex.proofs.comment.line_comment.Goals as goal

pub returns : goal.returns
returns c =
    let e : c.split_at.result.1.now ≡ drop c.args.at c.args.text.now = c.split_at.ensures.back ∙ ap (drop c.args.at) c.as_bytes.ensures.value in
    line_step c.args.text.now c.split_at.result.1.now c.args.at c.line_len.result e c.requires.within c.requires.begins.0 c.requires.begins.1 c.line_len.ensures.value
