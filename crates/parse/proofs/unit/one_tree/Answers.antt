use Rattle.parse.proofs.items.Sources.{one_source}
use Rattle.parse.proofs.unit.one_tree.Goals as goal

pub returns : goal.returns
returns c = one_source
