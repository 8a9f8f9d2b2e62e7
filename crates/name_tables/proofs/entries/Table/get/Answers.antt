use Rattle.std.proofs.Common.{◌∙◌}
use Rattle.name_tables.proofs.Firsts.{firsts}
use Rattle.name_tables.proofs.entries.Table.get.Goals as goal

pub returns : goal.returns
returns g c = c.get.ensures.value ∙ firsts c.args.self.now.map.entries c.args.name.now
