-- The memory in which the threads of a code begin.
use Rattle.std.specs.Prelude.{ℕ, List}
use Rattle.syntax.specs.Names.{initial_from}
use Rattle.bytecode.specs.Code.{Code}

abbrev pub initial_of : Code → List ℕ
initial_of code = initial_from code.globals
