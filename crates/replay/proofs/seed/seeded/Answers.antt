use Rattle.std.proofs.Common.{arith, ap, sym, append-nil, [], ◌∷◌, ◌++◌, ◌∙◌}
use Rattle.replay.specs.declared.line.Line.{Line}
use Rattle.replay.proofs.Words.{lines_pushed, lines_done}
use Rattle.replay.proofs.seed.seeded.Goals as goal

pub steps-preserved : goal.steps-preserved
steps-preserved g c =
    lines_pushed c.args.threads c.args.steps c.steps.i c.steps.generator _ _ _ c.steps.found.items _ c.steps-test.true c.next_word-word.ensures c.steps.invariant (c.in-Ok.ensures.items ∙ ap (λ (l : Line). c.steps.found.items ++ l ∷ []) c.step_of.ensures)

pub returns-clause-lines : goal.returns-clause-lines
returns-clause-lines g c =
    let none = lines_done c.args.threads c.args.steps c.steps.i c.steps.generator (omega (arith, c.steps-test.false)) in
    sym (c.steps.invariant ∙ ap (λ zs. c.steps.found.items ++ zs) none ∙ append-nil c.steps.found.items)
