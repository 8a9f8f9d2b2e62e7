use Rattle.std.proofs.Common.{inr, refl}
use Rattle.serving.proofs.Opening.{questions_opened, questions_unread}
use Rattle.serving.proofs.ask.open_asked.Goals as goal

pub returns-in-Ok : goal.returns-in-Ok
returns-in-Ok g c = questions_opened c.args.questions.now _ (g.F.Files.contents c.args.files.now c.args.file.now) c.ask.result _ _ c.in-Ok.ensures c.ask.ensures

pub returns-in-Err : goal.returns-in-Err
returns-in-Err g c = questions_unread c.args.questions.now (g.F.Files.contents c.args.files.now c.args.file.now) c.not_read.result _ _ (inr c.not_read.ensures.status) refl
