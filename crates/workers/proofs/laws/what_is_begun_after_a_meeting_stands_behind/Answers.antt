use Rattle.workers.proofs.Behind.{have_all, stands_behind}
use Rattle.workers.proofs.laws.what_is_begun_after_a_meeting_stands_behind.Goals as goal

pub returns-clause-behind : goal.returns-clause-behind
returns-clause-behind g c = stands_behind _

pub returns-clause-all : goal.returns-clause-all
returns-clause-all g c = have_all _
