use Rattle.std.proofs.Common.{◌∙◌, ◌++◌, ◌∷◌, [], ℕ, List, ap}
use Rattle.machine.specs.declared.event.StepShown.{StepShown}
use Rattle.replay.proofs.Showing.{next_shown}
use Rattle.replay.proofs.shown.show.Goals as goal

pub returns-clause-shown : goal.returns-clause-shown
returns-clause-shown g c =
    let n : ℕ = c.accesses.result in
    c.in-Ok-push.ensures.items ∙ ap (λ (l : List (ℕ × ℕ × StepShown)). l ++ (n, c.args.t, c.in-Ok.step) ∷ []) c.requires
    ∙ next_shown c.args.world.now c.step_shown.new.self c.args.t n c.in-Ok.step c.in-Ok.ensures.ok c.in-Ok.ensures.shown c.accesses.ensures
