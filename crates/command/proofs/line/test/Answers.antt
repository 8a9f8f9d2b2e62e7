use Rattle.command.proofs.line.test.Goals as goal

pub returns : goal.returns
returns c =
    let one = c.with-command.ensures _ _ c.command_of-command.ensures c.files.ensures.rule c.files.ensures.global in
    let two = c.with-command-2.ensures _ _ one c.text-format.ensures.rule c.text-format.ensures.global in
    c.with.ensures _ _ two c.flag-list.ensures.rule c.flag-list.ensures.global
