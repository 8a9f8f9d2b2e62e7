use Rattle.picture.proofs.Escaped.{no_bracket_of_source}
use Rattle.picture.proofs.laws.no_source_holds_a_bracket.Goals as goal

pub returns : goal.returns
returns c = no_bracket_of_source
