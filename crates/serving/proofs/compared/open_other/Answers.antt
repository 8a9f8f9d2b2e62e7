use Rattle.std.proofs.Common.{◌∙◌, ap, inr, refl}
use Rattle.serving.specs.Compared.{name_of}
use Rattle.serving.proofs.Opening.{comparison_unread, comparison_with}
use Rattle.serving.proofs.compared.open_other.Goals as goal

pub returns-in-Ok : goal.returns-in-Ok
returns-in-Ok g c =
    let contents = g.F.Files.contents c.args.files.now in
    comparison_with c.args.comparison.now (g.R.Read.remaining c.args.source) _ (contents (name_of c.args.comparison.now.against)) c.compare.result _ _ (c.in-Ok.ensures ∙ ap contents c.name_of-name.ensures) c.compare.ensures

pub returns-in-Err : goal.returns-in-Err
returns-in-Err g c =
    let contents = g.F.Files.contents c.args.files.now in
    comparison_unread c.args.comparison.now (contents (name_of c.args.comparison.now.against)) (g.R.Read.remaining c.args.source) c.not_read.result _ _ (inr c.not_read.ensures.status) refl
