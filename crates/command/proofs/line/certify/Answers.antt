use Rattle.command.proofs.line.certify.Goals as goal

pub returns : goal.returns
returns c =
    let one = c.with-command.ensures _ _ c.of_file-command.ensures c.threads.ensures.rule c.threads.ensures.global in
    let two = c.with-command-2.ensures _ _ one c.wanted-order.ensures.rule c.wanted-order.ensures.global in
    let three = c.with-command-3.ensures _ _ two c.wanted-report.ensures.rule c.wanted-report.ensures.global in
    c.with.ensures _ _ three c.text-ticks.ensures.rule c.text-ticks.ensures.global
