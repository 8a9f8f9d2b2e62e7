use Rattle.command.proofs.line.replay_steps.Goals as goal

pub returns : goal.returns
returns c =
    let one = c.with-command.ensures _ _ c.of_file-command.ensures c.threads.ensures.rule c.threads.ensures.global in
    let two = c.with-command-2.ensures _ _ one c.text-schedule.ensures.rule c.text-schedule.ensures.global in
    let three = c.with-command-3.ensures _ _ two c.text-seed.ensures.rule c.text-seed.ensures.global in
    let four = c.with-command-4.ensures _ _ three c.text-steps.ensures.rule c.text-steps.ensures.global in
    c.with.ensures _ _ four c.order.ensures.rule c.order.ensures.global
