-- When a code means a program.
use Rattle.syntax.specs.Tree.{Program}
use Rattle.syntax.specs.Names.{bounds}
use Rattle.syntax.specs.Behaviours.{Means}
use Rattle.syntax.specs.Threads.{thread}
use Rattle.bytecode.specs.Sequential.{meaning}
use Rattle.bytecode.specs.Code.{Code, effect}
use Rattle.bytecode.specs.Beginning.{beginning}

-- a code means a program, in both directions: whatever memories its transactions find, each thread of the code does
-- what the program's thread does within some number of ticks, and vice versa
abbrev pub MeansItsProgram : Program → Code → Type 0
MeansItsProgram p code = Means (bounds p) (meaning (effect code) (beginning code)) (thread p)
