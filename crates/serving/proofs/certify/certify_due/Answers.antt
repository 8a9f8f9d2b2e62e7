use Rattle.std.proofs.Common.{◌≡◌, refl}
use Rattle.serving.specs.Certified.{SaysSo, ShowsDifference}
use Rattle.serving.proofs.Verdicts.{either_known, either_untold}
use Rattle.serving.proofs.certify.certify_due.Goals as goal

pub returns-in-Ok : goal.returns-in-Ok
returns-in-Ok g c =
    either_known (SaysSo (λ text. text ≡ c.args.due.now)) (ShowsDifference (λ text. text ≡ c.args.due.now)) (g.Q.Read.remaining c.args.report) c.in-Ok.found.items c.as_slice.result.now c.tell_verdict.result _ _ c.in-Ok.ensures c.as_slice.ensures.value c.tell_verdict.ensures

pub returns-in-Err : goal.returns-in-Err
returns-in-Err g c =
    either_untold (SaysSo (λ text. text ≡ c.args.due.now)) (ShowsDifference (λ text. text ≡ c.args.due.now)) (g.Q.Read.remaining c.args.report) c.not_read.result _ _ c.not_read.ensures.status refl
