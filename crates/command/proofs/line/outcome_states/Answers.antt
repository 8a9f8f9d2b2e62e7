use Rattle.command.proofs.line.outcome_states.Goals as goal

pub returns : goal.returns
returns c =
    let one = c.with-command.ensures _ _ c.of_file-command.ensures c.threads_explored.ensures.rule c.threads_explored.ensures.global in
    let two = c.with-command-2.ensures _ _ one c.text-steps.ensures.rule c.text-steps.ensures.global in
    let three = c.with-command-3.ensures _ _ two c.text-limit.ensures.rule c.text-limit.ensures.global in
    let four = c.with-command-4.ensures _ _ three c.text-memory.ensures.rule c.text-memory.ensures.global in
    let five = c.with-command-5.ensures _ _ four c.text-time.ensures.rule c.text-time.ensures.global in
    let six = c.with-command-6.ensures _ _ five c.text-refines.ensures.rule c.text-refines.ensures.global in
    let seven = c.with-command-7.ensures _ _ six c.text-expect.ensures.rule c.text-expect.ensures.global in
    c.with.ensures _ _ seven c.text-admits.ensures.rule c.text-admits.ensures.global
