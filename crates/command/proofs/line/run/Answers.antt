use Rattle.command.proofs.line.run.Goals as goal

pub returns : goal.returns
returns c =
    let one = c.with-command.ensures _ _ c.of_file-command.ensures c.threads.ensures.rule c.threads.ensures.global in
    let two = c.with-command-2.ensures _ _ one c.text-budget.ensures.rule c.text-budget.ensures.global in
    let three = c.with-command-3.ensures _ _ two c.flag-counts.ensures.rule c.flag-counts.ensures.global in
    c.with.ensures _ _ three c.text-memory.ensures.rule c.text-memory.ensures.global
