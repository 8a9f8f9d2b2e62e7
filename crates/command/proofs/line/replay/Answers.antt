use Rattle.command.proofs.line.replay.Goals as goal

pub returns : goal.returns
returns c =
    let one = c.with-command.ensures _ _ c.replay_steps-command.ensures c.flag-timeline.ensures.rule c.flag-timeline.ensures.global in
    let two = c.with-command-2.ensures _ _ one c.flag-picture.ensures.rule c.flag-picture.ensures.global in
    let three = c.with-command-3.ensures _ _ two c.text-from.ensures.rule c.text-from.ensures.global in
    c.with.ensures _ _ three c.flag-print_schedule.ensures.rule c.flag-print_schedule.ensures.global
