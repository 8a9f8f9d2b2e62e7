use Rattle.std.proofs.Common.{◌≡◌, ◌∙◌, subst, sym}
use Rattle.syntax.specs.Views.{program_of}
use Rattle.serving.specs.Orders.{IsOrderWith}
use Rattle.serving.specs.Written.{IsReportOf}
use Rattle.serving.proofs.Certifying.{due_served}
use Rattle.serving.proofs.certify.certify_order.Goals as goal

pub returns-in-Ok : goal.returns-in-Ok
returns-in-Ok g c =
    let p = program_of c.args.accepted.now.safe.typed.unit in
    due_served (λ text. text ≡ c.as_slice.result.now) (IsReportOf (IsOrderWith p c.args.claim.now.threads c.args.claim.now.ticks c.args.order.now))
    (λ text e. subst (IsReportOf (IsOrderWith p c.args.claim.now.threads c.args.claim.now.ticks c.args.order.now)) (sym (e ∙ c.as_slice.ensures.value)) c.in-Ok.ensures) ⊥ (g.Q.Read.remaining c.args.report) c.certify_due.result _ _ c.certify_due.ensures
