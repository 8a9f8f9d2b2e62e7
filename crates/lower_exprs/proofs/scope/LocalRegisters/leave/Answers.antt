use Rattle.std.proofs.Common.{◌∙◌, map, sym, ap}
use Rattle.std.proofs.lemmas.List.{take-map}
use Rattle.name_tables.specs.Known.{locals_in}
use Rattle.lower_exprs.specs.Views.{local_in}
use Rattle.lower_exprs.proofs.scope.LocalRegisters.leave.Goals as goal

pub returns : goal.returns
returns g c = ap (map local_in) c.leave.ensures ∙ sym (take-map local_in c.args.count (locals_in c.args.self.now.known))
