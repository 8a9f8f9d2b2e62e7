use Rattle.lex.proofs.unique.Ways.{one_cut_law}
use Rattle.lex.proofs.laws.one_list_of_tokens.Goals as goal

pub returns : goal.returns
returns c = one_cut_law
