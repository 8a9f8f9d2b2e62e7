use Rattle.command.proofs.line.explain.Goals as goal

pub returns : goal.returns
returns c =
    let one = c.with-command.ensures _ _ c.command_of-command.ensures c.fault.ensures.rule c.fault.ensures.global in
    c.with.ensures _ _ one c.trap.ensures.rule c.trap.ensures.global
