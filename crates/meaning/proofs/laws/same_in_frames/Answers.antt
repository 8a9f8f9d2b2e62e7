use Rattle.meaning.proofs.FramedSteps.{expr_framed, stmt_framed}
use Rattle.meaning.proofs.laws.same_in_frames.Goals as goal

pub returns-clause-values : goal.returns-clause-values
returns-clause-values c = expr_framed

pub returns-clause-statements : goal.returns-clause-statements
returns-clause-statements c = stmt_framed
