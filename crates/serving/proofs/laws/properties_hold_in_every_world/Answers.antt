use Rattle.std.proofs.Common.{ap, subst}
use Rattle.syntax.specs.Laws.{BeginsWithMemory}
use Rattle.syntax.specs.Names.{bounds, bounds_of, initial_memory}
use Rattle.syntax.specs.Threads.{thread}
use Rattle.bytecode.specs.Beginning.{beginning}
use Rattle.bytecode.specs.Code.{Code, effect}
use Rattle.bytecode.specs.Effects.{FitsCells}
use Rattle.bytecode.specs.Valid.{IsValid}
use Rattle.machine.proofs.runs.Programs.{opaque_source}
use Rattle.serving.specs.Laws.{PropertiesHoldInWorlds}
use Rattle.serving.proofs.EveryRun.{hold_of_shared, holds_in_world}
use Rattle.serving.proofs.laws.properties_hold_in_every_world.Goals as goal

in_worlds : BeginsWithMemory → ((code : Code) → IsValid code → FitsCells (effect code) (bounds_of code.globals)) → PropertiesHoldInWorlds
in_worlds first fits p code threads steps x valid compiled few always free =
    holds_in_world p code threads steps x
    (opaque_source (effect code) (beginning code) (bounds p) (initial_memory p) (first p) (subst (FitsCells (effect code)) (ap bounds_of compiled.globals) (fits code valid)) (thread p) compiled.means threads few steps)
    always free

pub returns-clause-worlds : goal.returns-clause-worlds
returns-clause-worlds c = in_worlds c.threads_leave_memories.ensures.first c.valid_code_fits_its_cells.ensures

pub returns-clause-threads : goal.returns-clause-threads
returns-clause-threads c = hold_of_shared (in_worlds c.threads_leave_memories.ensures.first c.valid_code_fits_its_cells.ensures)
