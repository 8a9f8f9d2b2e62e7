use Rattle.lex.proofs.unique.Lies.{lie_law}
use Rattle.lex.proofs.laws.tokens_lie_in_order.Goals as goal

pub returns : goal.returns
returns c = lie_law
