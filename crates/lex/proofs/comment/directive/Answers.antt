use Rattle.std.proofs.Common.{◌≡◌, take, drop, ap, ◌∙◌}
use Rattle.lex.proofs.steps.Steps.{misplaced_step, unknown_step, include_step}
use Rattle.lex.proofs.comment.directive.Goals as goal

pub returns-then-not-is_first_on_line : goal.returns-then-not-is_first_on_line
returns-then-not-is_first_on_line c =
    let b : c.split_at.result.0.now ≡ take c.args.at c.args.text.now = c.split_at.ensures.front ∙ ap (take c.args.at) c.as_bytes.ensures.value in
    let e : c.split_at.result.1.now ≡ drop c.args.at c.args.text.now = c.split_at.ensures.back ∙ ap (drop c.args.at) c.as_bytes.ensures.value in
    misplaced_step c.args.text.now c.split_at.result.0.now c.split_at.result.1.now c.args.at b e c.requires.within c.requires.begins c.if-not-is_first_on_line.ensures

pub returns-then-not-is_include : goal.returns-then-not-is_include
returns-then-not-is_include c =
    let b : c.split_at.result.0.now ≡ take c.args.at c.args.text.now = c.split_at.ensures.front ∙ ap (take c.args.at) c.as_bytes.ensures.value in
    let e : c.split_at.result.1.now ≡ drop c.args.at c.args.text.now = c.split_at.ensures.back ∙ ap (drop c.args.at) c.as_bytes.ensures.value in
    unknown_step c.args.text.now c.split_at.result.0.now c.split_at.result.1.now c.split_at-2.result.0.now c.args.at c.line_len-len.result b e c.line_len-len.ensures.value c.split_at-2.ensures.front c.requires.within c.requires.begins c.if-not-is_first_on_line.ensures c.if-not-is_include.ensures

pub returns : goal.returns
returns c =
    let b : c.split_at.result.0.now ≡ take c.args.at c.args.text.now = c.split_at.ensures.front ∙ ap (take c.args.at) c.as_bytes.ensures.value in
    let e : c.split_at.result.1.now ≡ drop c.args.at c.args.text.now = c.split_at.ensures.back ∙ ap (drop c.args.at) c.as_bytes.ensures.value in
    include_step c.args.text.now c.split_at.result.0.now c.split_at.result.1.now c.split_at-2.result.0.now c.args.at c.line_len-len.result b e c.line_len-len.ensures.value c.split_at-2.ensures.front c.requires.within c.requires.begins c.if-not-is_first_on_line.ensures c.if-not-is_include.ensures
