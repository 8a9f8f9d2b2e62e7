use Rattle.std.proofs.Common.{◌∙◌, ap, inr, refl}
use Rattle.std.specs.Prelude.{string_bytes}
use Rattle.serving.proofs.Opening.{claim_reported, claim_unread}
use Rattle.serving.proofs.certify.open_report.Goals as goal

pub returns-in-Ok : goal.returns-in-Ok
returns-in-Ok g c =
    let contents = g.F.Files.contents c.args.files.now in
    claim_reported c.args.claim.now (g.S.Read.remaining c.args.order) (g.R.Read.remaining c.args.source) _ (contents (string_bytes c.args.claim.now.report)) c.certify.result _ _ (c.in-Ok.ensures ∙ ap contents c.as_str.ensures.value) c.certify.ensures

pub returns-in-Err : goal.returns-in-Err
returns-in-Err g c =
    let contents = g.F.Files.contents c.args.files.now in
    claim_unread c.args.claim.now (g.S.Read.remaining c.args.order) (contents (string_bytes c.args.claim.now.report)) (g.R.Read.remaining c.args.source) c.not_read.result _ _ (inr c.not_read.ensures.status) refl
