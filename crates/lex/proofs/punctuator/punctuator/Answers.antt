use Rattle.std.proofs.Common.{◌≡◌, drop, ap, sym, ◌∙◌}
use Rattle.lex.proofs.steps.Steps.{punctuator_step, strange_step}
use Rattle.lex.proofs.punctuator.punctuator.Goals as goal

pub returns-in-Some : goal.returns-in-Some
returns-in-Some c =
    let e : c.split_at.result.1.now ≡ drop c.args.at c.args.text.now = c.split_at.ensures.back ∙ ap (drop c.args.at) c.as_bytes.ensures.value in
    rw c.kind_of.ensures (punctuator_step c.args.text.now c.split_at.result.1.now c.args.at (c.in-Some.punctuator, c.in-Some.len) e c.requires.other (sym c.in-Some.ensures))

pub returns-in-None : goal.returns-in-None
returns-in-None c =
    let e : c.split_at.result.1.now ≡ drop c.args.at c.args.text.now = c.split_at.ensures.back ∙ ap (drop c.args.at) c.as_bytes.ensures.value in
    strange_step c.args.text.now c.split_at.result.1.now c.args.at c.character_len.result e c.requires.within c.requires.other (sym c.in-None.ensures) c.character_len.ensures.value
