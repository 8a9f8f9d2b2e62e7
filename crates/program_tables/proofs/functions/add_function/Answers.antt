use Rattle.name_tables.specs.Known.{entries_in}
use Rattle.program_tables.proofs.Placing.{one_more_here}
use Rattle.program_tables.proofs.functions.add_function.Goals as goal

pub returns : goal.returns
returns g c = one_more_here (entries_in c.args.table.now) (entries_in c.declare.new.self) c.as_str.result.now c.args.place c.args.f.now.name.text c.in_ok-declare.ensures.ok c.as_str.ensures
