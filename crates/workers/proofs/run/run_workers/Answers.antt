use Rattle.workers.proofs.run.run_workers.Goals as goal

pub drive_all-requires-after_bounds : goal.drive_all-requires-after_bounds
drive_all-requires-after_bounds g c κs within = c.requires.workers

pub report_of-requires-clause-here : goal.report_of-requires-clause-here
report_of-requires-clause-here g c = λ n lt. c.in-Ok.ensures.1 n (c.requires.here n lt)
