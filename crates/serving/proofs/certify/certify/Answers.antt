use Rattle.std.proofs.Common.{refl}
use Rattle.std.specs.Prelude.{string_bytes}
use Rattle.serving.proofs.Opening.{claim_read, claim_unread}
use Rattle.serving.proofs.certify.certify.Goals as goal

pub returns-in-Ok : goal.returns-in-Ok
returns-in-Ok g c =
    claim_read c.args.claim.now (g.S.Read.remaining c.args.order) (g.Q.Read.remaining c.args.report) (g.R.Read.remaining c.args.source) (string_bytes c.in-Ok.text) c.as_str.result.now c.certify_text.result _ _ c.in-Ok.ensures.ok c.as_str.ensures.value c.certify_text.ensures

pub returns-in-Err : goal.returns-in-Err
returns-in-Err g c =
    claim_unread c.args.claim.now (g.S.Read.remaining c.args.order) (g.Q.Read.remaining c.args.report) (g.R.Read.remaining c.args.source) c.in-Err.status _ _ c.in-Err.ensures.status refl
