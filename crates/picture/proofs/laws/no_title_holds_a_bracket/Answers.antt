use Rattle.picture.proofs.Escaped.{no_bracket}
use Rattle.picture.proofs.laws.no_title_holds_a_bracket.Goals as goal

pub returns : goal.returns
returns c = no_bracket
