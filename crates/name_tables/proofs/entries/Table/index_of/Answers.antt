use Rattle.std.proofs.Common.{◌∙◌}
use Rattle.name_tables.proofs.Firsts.{indices}
use Rattle.name_tables.proofs.entries.Table.index_of.Goals as goal

pub returns : goal.returns
returns g c = c.get_index_of.ensures.index ∙ indices c.args.self.now.map.entries c.args.name.now
