use Rattle.syntax.proofs.running.ThreadLaws.{more_ticks, more_memories, goes_on}
use Rattle.syntax.proofs.running.MoreFounds.{more_founds}
use Rattle.syntax.proofs.running.OneTick.{one_tick_more}
use Rattle.syntax.proofs.laws.threads_go_on.Goals as goal

pub returns-clause-ticks : goal.returns-clause-ticks
returns-clause-ticks c = more_ticks

pub returns-clause-memories : goal.returns-clause-memories
returns-clause-memories c = more_memories

pub returns-clause-founds : goal.returns-clause-founds
returns-clause-founds c = more_founds

pub returns-clause-both : goal.returns-clause-both
returns-clause-both c = goes_on

pub returns-clause-one_tick : goal.returns-clause-one_tick
returns-clause-one_tick c = one_tick_more
