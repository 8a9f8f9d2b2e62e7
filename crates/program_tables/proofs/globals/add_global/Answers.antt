use Rattle.name_tables.specs.Known.{entries_in}
use Rattle.program_tables.specs.Entries.{shared_in}
use Rattle.program_tables.proofs.Placing.{one_more}
use Rattle.program_tables.proofs.globals.add_global.Goals as goal

pub returns : goal.returns
returns g c = one_more shared_in (entries_in c.args.table.now) (entries_in c.declare.new.self) c.as_str.result.now _ c.args.g.now.name.text c.in_ok-declare.ensures.ok c.as_str.ensures
