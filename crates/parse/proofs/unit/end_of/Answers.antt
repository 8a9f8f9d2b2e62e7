use Rattle.parse.proofs.code.Ends.{end_is}
use Rattle.parse.proofs.unit.end_of.Goals as goal

pub returns-in-len1-up : goal.returns-in-len1-up
returns-in-len1-up c = end_is c.args.tokens.now _ c.in-len1-up.len_at_least
