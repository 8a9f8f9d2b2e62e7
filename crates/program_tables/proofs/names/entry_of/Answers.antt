use Rattle.program_tables.proofs.Defined.{numbered_here}
use Rattle.program_tables.proofs.names.entry_of.Goals as goal

pub returns : goal.returns
returns g c = numbered_here c.args.item.now c.in-Function.function c.in-Some.body c.as_slice.result.now c.args.number c.in-Function.is c.in-Some.is c.as_slice.ensures
