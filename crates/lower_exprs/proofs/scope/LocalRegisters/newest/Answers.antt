use Rattle.std.proofs.Common.{◌∙◌}
use Rattle.name_tables.specs.Known.{locals_in}
use Rattle.lower_exprs.proofs.Lookup.{newest_in}
use Rattle.lower_exprs.proofs.scope.LocalRegisters.newest.Goals as goal

pub returns : goal.returns
returns g c = c.newest.ensures ∙ newest_in (locals_in c.args.self.now.known) c.args.name.now
