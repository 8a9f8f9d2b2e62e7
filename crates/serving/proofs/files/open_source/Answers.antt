use Rattle.std.proofs.Common.{inr, refl}
use Rattle.serving.specs.Files.{schedule_in, schedule_of}
use Rattle.serving.proofs.Opening.{task_opened, task_unread}
use Rattle.serving.proofs.files.open_source.Goals as goal

pub returns-in-Ok : goal.returns-in-Ok
returns-in-Ok g c =
    let contents = g.F.Files.contents c.args.files.now in
    task_opened c.args.task.now (schedule_in contents (schedule_of c.args.task.now)) _ (contents c.args.file.now) c.open_schedule.result _ _ c.in-Ok.ensures c.open_schedule.ensures

pub returns-in-Err : goal.returns-in-Err
returns-in-Err g c =
    let contents = g.F.Files.contents c.args.files.now in
    task_unread c.args.task.now (schedule_in contents (schedule_of c.args.task.now)) (contents c.args.file.now) c.not_read.result _ _ (inr c.not_read.ensures.status) refl
