use Rattle.serving.proofs.ReplayRuns.{replay_of}
use Rattle.serving.proofs.replays.replay_code.Goals as goal

pub returns-in-Ok-clause-ok : goal.returns-in-Ok-clause-ok
returns-in-Ok-clause-ok g c = λ compiled.
    replay_of _ c.args.compiled.now.code _ _ c.in_ok-report.report _ _ _ compiled c.in_ok-report.ensures.report c.in-Ok.ensures.made c.in-Ok.ensures.stop (rw c.unit_of.ensures at c.in-Ok.ensures.printed)

pub returns-in-Ok-clause-wrong : goal.returns-in-Ok-clause-wrong
returns-in-Ok-clause-wrong g c =
    ((λ e. absurd cc), (λ wrong. absurd (cc (c.replay.ensures.wrong.1 wrong, c.in_ok-report.was))))

pub returns-in-Err-clause-wrong : goal.returns-in-Err-clause-wrong
returns-in-Err-clause-wrong g c =
    ((λ e. absurd cc), (λ wrong. absurd (cc (c.replay.ensures.wrong.1 wrong, c.in_ok-report.was))))
