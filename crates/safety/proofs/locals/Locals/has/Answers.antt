use Rattle.std.proofs.Common.{ap, ◌∙◌, is_some}
use Rattle.name_tables.specs.Known.{locals_in}
use Rattle.safety.proofs.Named.{has_newest}
use Rattle.safety.proofs.locals.Locals.has.Goals as goal

pub returns : goal.returns
returns g c = c.is_some.ensures ∙ ap is_some c.newest.ensures ∙ has_newest 0 (locals_in c.args.self.now.scope) c.args.name.now
