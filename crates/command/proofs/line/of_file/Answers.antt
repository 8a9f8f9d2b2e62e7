use Rattle.command.proofs.line.of_file.Goals as goal

pub returns : goal.returns
returns c =
    let one = c.with-command.ensures _ _ c.command_of.ensures c.file.ensures.rule c.file.ensures.global in
    let two = c.with-command-2.ensures _ _ one c.verbose.ensures.rule c.verbose.ensures.global in
    let three = c.with-command-3.ensures _ _ two c.format.ensures.rule c.format.ensures.global in
    c.with.ensures _ _ three c.define.ensures.rule c.define.ensures.global
