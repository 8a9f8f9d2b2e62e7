use Rattle.std.proofs.Common.{◌∙◌, ap}
use Rattle.syntax.specs.Types.{Unknown}
use Rattle.program_tables.specs.Entries.{known_of}
use Rattle.program_tables.specs.inner.Tables.{known_or}
use Rattle.program_tables.proofs.program.ProgramTables.symbol.Goals as goal

pub returns-in-Some : goal.returns-in-Some
returns-in-Some g c = ap known_of c.reborrow.ensures ∙ ap (λ o. known_or o Unknown) c.in-Some.ensures ∙ c.args.self.now.declared c.args.name.now

pub returns-in-None : goal.returns-in-None
returns-in-None g c = ap (λ o. known_or o Unknown) c.in-None.ensures ∙ c.args.self.now.declared c.args.name.now
