use Rattle.std.proofs.Common.{◌∙◌, ap, map, sym}
use Rattle.std.proofs.lemmas.List.{take-map}
use Rattle.name_tables.specs.Known.{locals_in}
use Rattle.safety.proofs.locals.Locals.leave.Goals as goal

pub returns : goal.returns
returns g c = ap (map (λ n. n.0)) c.leave.ensures ∙ sym (take-map (λ n. n.0) c.args.start (locals_in c.args.self.now.scope))
