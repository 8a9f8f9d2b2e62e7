use Rattle.std.proofs.Common.{◌∙◌, ap, subst, sym}
use Rattle.std.proofs.lemmas.Result.{IfOk-weaker}
use Rattle.syntax.specs.Views.{exprs_of}
use Rattle.meaning.specs.inner.Going.{call_begun}
use Rattle.program_tables.specs.Views.{program_in}
use Rattle.meaning.specs.inner.Standing.{IsGone}
use Rattle.meaning.proofs.standing.go_call.Goals as goal

pub returns-in-Err : goal.returns-in-Err
returns-in-Err g c =
    let source = c.args.source.now in
    let run = call_begun (program_in source) c.args.frames c.args.f.now.text (exprs_of c.args.args.now) in
    IfOk-weaker c.stop_thread.result _ _ (λ gone h. subst (IsGone source gone) (sym (ap run (sym c.in_ok-m.ensures) ∙ c.in-Err.ensures h.0)) h.1) (c.stop_thread.ensures source)

pub returns-in-Ok : goal.returns-in-Ok
returns-in-Ok g c =
    let source = c.args.source.now in
    let run = call_begun (program_in source) c.args.frames c.args.f.now.text (exprs_of c.args.args.now) in
    IfOk-weaker c.went.result _ _ (λ gone h. subst (IsGone source gone) (sym (ap run (sym c.in_ok-m.ensures) ∙ c.in-Ok.ensures tt)) h) (c.went.ensures source)
