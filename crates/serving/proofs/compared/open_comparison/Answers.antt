use Rattle.std.proofs.Common.{inr, refl}
use Rattle.serving.specs.Compared.{name_of}
use Rattle.serving.proofs.Opening.{comparison_opened, comparison_unread}
use Rattle.serving.proofs.compared.open_comparison.Goals as goal

pub returns-in-Ok : goal.returns-in-Ok
returns-in-Ok g c =
    let contents = g.F.Files.contents c.args.files.now in
    comparison_opened c.args.comparison.now (contents (name_of c.args.comparison.now.against)) _ (contents c.args.file.now) c.open_other.result _ _ c.in-Ok.ensures c.open_other.ensures

pub returns-in-Err : goal.returns-in-Err
returns-in-Err g c =
    let contents = g.F.Files.contents c.args.files.now in
    comparison_unread c.args.comparison.now (contents (name_of c.args.comparison.now.against)) (contents c.args.file.now) c.not_read.result _ _ (inr c.not_read.ensures.status) refl
