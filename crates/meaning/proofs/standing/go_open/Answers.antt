use Rattle.std.proofs.Common.{◌∙◌, ap, subst, sym}
use Rattle.std.proofs.lemmas.Result.{IfOk-weaker}
use Rattle.syntax.specs.Views.{stmt_of}
use Rattle.meaning.specs.inner.Left.{first_step}
use Rattle.meaning.specs.inner.Standing.{IsGone}
use Rattle.meaning.proofs.standing.go_open.Goals as goal

pub returns-in-Err : goal.returns-in-Err
returns-in-Err g c =
    let source = c.args.source.now in
    let run = first_step source c.args.frames (stmt_of c.args.s.now) c.args.parts.now in
    IfOk-weaker c.stop_thread.result _ _ (λ gone h. subst (IsGone source gone) (sym (ap run (sym c.in_ok-m.ensures) ∙ c.in-Err.ensures h.0)) h.1) (c.stop_thread.ensures source)
