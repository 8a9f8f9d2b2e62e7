use Rattle.command.proofs.line.explore.Goals as goal

pub returns : goal.returns
returns c =
    let one = c.with-command.ensures _ _ c.of_file-command.ensures c.threads_traced.ensures.rule c.threads_traced.ensures.global in
    let two = c.with-command-2.ensures _ _ one c.order.ensures.rule c.order.ensures.global in
    c.with.ensures _ _ two c.text-always.ensures.rule c.text-always.ensures.global
