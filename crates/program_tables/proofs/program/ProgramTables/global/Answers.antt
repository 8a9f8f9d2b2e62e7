use Rattle.std.proofs.Common.{◌∙◌, option_map, ap}
use Rattle.syntax.specs.Views.{program_of}
use Rattle.program_tables.specs.Entries.{shared_in}
use Rattle.program_tables.proofs.Placing.{low_among}
use Rattle.program_tables.proofs.program.ProgramTables.global.Goals as goal

pub returns-clause-value : goal.returns-clause-value
returns-clause-value g c = ap (option_map shared_in) (c.copied.ensures ∙ c.get.ensures) ∙ c.args.self.now.shared c.args.name.now

pub returns-clause-low : goal.returns-clause-low
returns-clause-low g c =
    low_among (program_of c.args.self.now.unit.now) c.args.name.now c.copied.result (ap (option_map shared_in) (c.copied.ensures ∙ c.get.ensures) ∙ c.args.self.now.shared c.args.name.now) c.args.self.now.small
