use Rattle.std.proofs.Common.{inr, refl}
use Rattle.std.specs.Prelude.{string_bytes}
use Rattle.serving.proofs.Opening.{claim_opened, claim_unread}
use Rattle.serving.proofs.certify.open_claim.Goals as goal

pub returns-in-Ok : goal.returns-in-Ok
returns-in-Ok g c =
    let contents = g.F.Files.contents c.args.files.now in
    claim_opened c.args.claim.now (contents (string_bytes c.args.claim.now.order)) (contents (string_bytes c.args.claim.now.report)) _ (contents c.args.file.now) c.open_order.result _ _ c.in-Ok.ensures c.open_order.ensures

pub returns-in-Err : goal.returns-in-Err
returns-in-Err g c =
    let contents = g.F.Files.contents c.args.files.now in
    claim_unread c.args.claim.now (contents (string_bytes c.args.claim.now.order)) (contents (string_bytes c.args.claim.now.report)) (contents c.args.file.now) c.not_read.result _ _ (inr c.not_read.ensures.status) refl
