use Rattle.command.proofs.line.check.Goals as goal

pub returns : goal.returns
returns c =
    let one = c.with-command.ensures _ _ c.of_file-command.ensures c.flag-warn.ensures.rule c.flag-warn.ensures.global in
    c.with.ensures _ _ one c.flag-all.ensures.rule c.flag-all.ensures.global
