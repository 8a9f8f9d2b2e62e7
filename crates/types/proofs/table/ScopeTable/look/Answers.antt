use Rattle.std.proofs.Common.{◌∙◌, sym, ap}
use Rattle.name_tables.specs.Named.{first}
use Rattle.types.specs.inner.Known.{known_as, known_in, file_of}
use Rattle.types.proofs.table.ScopeTable.look.Goals as goal

pub returns-in-Some : goal.returns-in-Some
returns-in-Some g c = unfold known_in in ap (λ o. known_as o (first (file_of c.args.self.now) c.args.name.now)) (sym c.in-Some.is ∙ c.newest.ensures)

pub returns-in-None : goal.returns-in-None
returns-in-None g c = unfold known_in in (c.look_in_file.ensures ∙ ap (λ o. known_as o (first (file_of c.args.self.now) c.args.name.now)) (sym c.in-None.is ∙ c.newest.ensures))
