use Rattle.pages.proofs.Escaping.{no_bracket}
use Rattle.pages.proofs.laws.no_data_opens_a_tag.Goals as goal

pub returns : goal.returns
returns c = no_bracket
