use Rattle.std.proofs.Common.{◌∙◌, ap, map, sym}
use Rattle.std.proofs.lemmas.List.{take-map}
use Rattle.syntax.specs.Actions.{Gives}
use Rattle.meaning.specs.inner.Going.{Ends}
use Rattle.meaning.specs.inner.Left.{step_of}
use Rattle.meaning.specs.inner.SourceThread.{completion_of, local_in, state_in}
use Rattle.meaning.proofs.left.step.Goals as goal

pub returns-in-Body : goal.returns-in-Body
returns-in-Body g c done = ap (λ l. step_of c.args.source.now l (completion_of c.args.end) (state_in c.args.m.now)) c.in-Body.is ∙ c.leave_body.ensures done

pub returns-in-Scope : goal.returns-in-Scope
returns-in-Scope g c done =
    ap (λ l. step_of c.args.source.now l (completion_of c.args.end) (state_in c.args.m.now)) c.in-Scope.is
    ∙ ap (λ ls. Gives (Ends (completion_of c.args.end)) (record (state_in c.args.m.now) { locals = ls })) (take-map local_in c.in-Scope.outer c.args.m.now.locals.items ∙ ap (map local_in) (sym c.truncate.ensures.items))
