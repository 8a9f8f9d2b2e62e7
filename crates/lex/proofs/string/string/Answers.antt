use Rattle.std.proofs.Common.{◌≡◌, ◌+◌, ◌-◌, ℕ, take, drop, ap, sym, ◌∙◌, arith}
use Rattle.lex.proofs.steps.Steps.{string_step, quote_step}
use Rattle.lex.proofs.string.string.Goals as goal

pub returns-in-Some : goal.returns-in-Some
returns-in-Some c =
    let e : c.split_at.result.1.now ≡ drop (c.args.at + 1) c.args.text.now = c.split_at.ensures.back ∙ ap (drop (c.args.at + 1)) c.as_bytes.ensures.value in
    let sum : c.args.at + 1 + c.in-Some.len - (c.args.at + 1) ≡ c.in-Some.len = omega arith in
    let inner : c.range.result.now ≡ take c.in-Some.len c.split_at.result.1.now = c.range.ensures.value ∙ ap (λ (n : ℕ). take n (drop (c.args.at + 1) c.args.text.now)) sum ∙ ap (take c.in-Some.len) (sym e) in
    string_step c.args.text.now c.split_at.result.1.now c.range.result.now c.args.at c.in-Some.len c.requires.within c.requires.begins e c.in-Some.ensures inner

pub returns-in-None : goal.returns-in-None
returns-in-None c =
    let e : c.split_at.result.1.now ≡ drop (c.args.at + 1) c.args.text.now = c.split_at.ensures.back ∙ ap (drop (c.args.at + 1)) c.as_bytes.ensures.value in
    quote_step c.args.text.now c.split_at.result.1.now c.args.at c.requires.within c.requires.begins e c.in-None.ensures
