use Rattle.command.proofs.line.trace.Goals as goal

pub returns : goal.returns
returns c =
    let one = c.with-command.ensures _ _ c.of_file-command.ensures c.threads_traced.ensures.rule c.threads_traced.ensures.global in
    let two = c.with-command-2.ensures _ _ one c.order_wanted.ensures.rule c.order_wanted.ensures.global in
    let three = c.with-command-3.ensures _ _ two c.text-property.ensures.rule c.text-property.ensures.global in
    c.with.ensures _ _ three c.flag-full.ensures.rule c.flag-full.ensures.global
