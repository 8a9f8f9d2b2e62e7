use Rattle.std.proofs.Common.{◌≤◌, ◌∙◌, ℕ, sym, subst}
use Rattle.workers.proofs.Drives.{in_any_order}
use Rattle.workers.proofs.Numbers.{numbers_from}
use Rattle.workers.proofs.Ran.{ran_of}
use Rattle.workers.proofs.run.run_all.Goals as goal

pub run_workers-requires-clause-workers : goal.run_workers-requires-clause-workers
run_workers-requires-clause-workers g c κs within =
    let hall = c.in-Ok.opened.0 in
    in_any_order hall.table.shared.table_id hall.setup 0 c.in-Ok.opened.1.items c.in-Ok.ensures.workers.1

pub run_workers-requires-clause-here : goal.run_workers-requires-clause-here
run_workers-requires-clause-here g c κs within =
    let hall = c.in-Ok.opened.0 in
    let ws = c.in-Ok.opened.1 in
    let are = c.in-Ok.ensures.workers in
    numbers_from hall.table.shared.table_id hall.setup ws.items are.1 hall.setup.threads (sym ws.ok.0 ∙ are.0 ∙ sym c.in-Ok.ensures.setup.1)

pub run_workers-requires-clause-few : goal.run_workers-requires-clause-few
run_workers-requires-clause-few g c κs within = subst (λ (n : ℕ). n ≤ 64) (sym c.in-Ok.ensures.setup.1) c.in-Ok.ensures.setup.3

pub returns-in-Ok-run_workers-clause-report : goal.returns-in-Ok-run_workers-clause-report
returns-in-Ok-run_workers-clause-report g c = λ does means.
    let setup = c.in-Ok.ensures.setup in
    ran_of does c.args.code.now c.args.threads c.args.budget c.in-Ok.opened.0.setup c.in-Ok-run_workers.report setup.0 setup.1 means (c.in-Ok-run_workers.ensures does)
