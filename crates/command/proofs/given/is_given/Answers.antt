use Rattle.command.proofs.Reading.{text_compared, none_compared}
use Rattle.command.proofs.given.is_given.Goals as goal

pub returns-in-Some : goal.returns-in-Some
returns-in-Some c = text_compared _ _ _ _ c.in-Some.ensures c.eq.ensures

pub returns-in-None : goal.returns-in-None
returns-in-None c = none_compared _ _ c.in-None.ensures
