use Rattle.command.proofs.line.program.Goals as goal

pub returns : goal.returns
returns c =
    let one = c.with_command-program.ensures _ _ c.commandless.ensures c.check.ensures in
    let two = c.with_command-program-2.ensures _ _ one c.listing.ensures in
    let three = c.with_command-program-3.ensures _ _ two c.run.ensures in
    let four = c.with_command-program-4.ensures _ _ three c.replay.ensures in
    let five = c.with_command-program-5.ensures _ _ four c.source.ensures in
    let six = c.with_command-program-6.ensures _ _ five c.trace.ensures in
    let seven = c.with_command-program-7.ensures _ _ six c.explore.ensures in
    let eight = c.with_command-program-8.ensures _ _ seven c.outcomes.ensures in
    let nine = c.with_command-program-9.ensures _ _ eight c.certify.ensures in
    let ten = c.with_command-program-10.ensures _ _ nine c.test.ensures in
    c.with_command.ensures _ _ ten c.explain.ensures
