-- The program of the tables.
use Rattle.syntax.specs.Tree.{Program}
use Rattle.syntax.specs.Views.{program_of}
use Rattle.program_tables.specs.declared.program.ProgramTables.{ProgramTables}

abbrev pub program_in : {A : Type 0} → ProgramTables A → Program
program_in tables = program_of tables.unit.now
