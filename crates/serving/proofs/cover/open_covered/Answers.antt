use Rattle.std.proofs.Common.{inr, refl}
use Rattle.serving.proofs.Opening.{coverage_opened, coverage_unread}
use Rattle.serving.proofs.cover.open_covered.Goals as goal

pub returns-in-Ok : goal.returns-in-Ok
returns-in-Ok g c = coverage_opened c.args.coverage.now _ (g.F.Files.contents c.args.files.now c.args.file.now) c.cover.result _ _ c.in-Ok.ensures c.cover.ensures

pub returns-in-Err : goal.returns-in-Err
returns-in-Err g c = coverage_unread c.args.coverage.now (g.F.Files.contents c.args.files.now c.args.file.now) c.not_read.result _ _ (inr c.not_read.ensures.status) refl
