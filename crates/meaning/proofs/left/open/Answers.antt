use Rattle.std.proofs.Common.{◌∙◌, ap}
use Rattle.syntax.specs.Actions.{tick}
use Rattle.syntax.specs.Views.{stmt_of}
use Rattle.meaning.specs.inner.Left.{step_by_parts}
use Rattle.meaning.specs.inner.SourceThread.{state_in}
use Rattle.meaning.proofs.Sequences.{after}
use Rattle.meaning.proofs.left.open.Goals as goal

pub returns-in-Either : goal.returns-in-Either
returns-in-Either g c done =
    let steps = step_by_parts c.args.source.now c.args.frames (stmt_of c.args.s.now) in
    after (tick (state_in c.args.m.now)) (λ _. steps c.args.parts.now) tt (state_in c.tick.new.m) (c.in_ok-tick.ensures tt)
    ∙ ap (λ q. steps q (state_in c.tick.new.m)) c.in-Either.is ∙ c.begin_either.ensures done
