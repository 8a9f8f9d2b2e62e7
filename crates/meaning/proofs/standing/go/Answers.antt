use Rattle.std.proofs.Common.{◌∙◌, ap, subst, sym}
use Rattle.std.proofs.lemmas.Result.{IfOk-weaker}
use Rattle.meaning.specs.inner.Left.{step_of}
use Rattle.meaning.specs.inner.SourceThread.{completion_of}
use Rattle.meaning.specs.inner.Standing.{IsGone}
use Rattle.meaning.proofs.standing.go.Goals as goal

pub returns-in-Err : goal.returns-in-Err
returns-in-Err g c =
    let source = c.args.source.now in
    let run = step_of source c.args.left.now (completion_of c.args.end) in
    IfOk-weaker c.stop_thread.result _ _ (λ gone h. subst (IsGone source gone) (sym (ap run (sym c.in_ok-m.ensures) ∙ c.in-Err.ensures h.0)) h.1) (c.stop_thread.ensures source)
