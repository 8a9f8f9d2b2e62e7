use Rattle.name_tables.specs.Known.{entries_in}
use Rattle.program_tables.proofs.Declared.{symbol_more}
use Rattle.program_tables.proofs.symbols.add_symbol.Goals as goal

pub returns : goal.returns
returns g c = symbol_more (entries_in c.args.symbols.now) (entries_in c.declare.new.self) c.args.name.now c.args.symbol c.in_ok-declare.ensures.ok
