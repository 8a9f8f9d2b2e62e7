-- The contents of the entries of a program's tables.
use Rattle.syntax.specs.Tree.{Function, Stmts}
use Rattle.syntax.specs.Names.{GlobalCells}
use Rattle.syntax.specs.Types.{Known, Unknown, known_global, known_function}
use Rattle.syntax.specs.Views.{global_of, function_of, stmts_of}
use Rattle.program_tables.specs.Functions.{NumberedFunction}
use Rattle.program_tables.specs.declared.entries.Shared.{Shared}
use Rattle.program_tables.specs.declared.entries.FunctionEntry.{FunctionEntry}
use Rattle.program_tables.specs.declared.entries.Symbol.{Symbol}
use Rattle.program_tables.specs.declared.entries.Symbol.TheVariants as symbol

module _ {A : Type 0} where
  abbrev pub shared_in : Shared A → GlobalCells
  shared_in g = record { global = global_of g.global.now; cell = g.cell }

  abbrev pub defined_in : FunctionEntry A → Function × Stmts
  defined_in f = (function_of f.function.now, stmts_of f.body.now)

  abbrev pub function_in : FunctionEntry A → NumberedFunction
  function_in f = record { number = f.number; definition = defined_in f }

  abbrev pub known_of : Symbol A → Known
  known_of symbol.Unknown = Unknown
  known_of (symbol.Global g) = known_global (global_of g.now)
  known_of (symbol.Function f) = known_function (function_of f.now)
