use Rattle.std.proofs.Common.{ap, subst}
use Rattle.syntax.specs.Names.{bounds, bounds_of, initial_memory}
use Rattle.syntax.specs.Threads.{thread}
use Rattle.bytecode.specs.Beginning.{beginning}
use Rattle.bytecode.specs.Code.{effect}
use Rattle.bytecode.specs.Effects.{FitsCells}
use Rattle.machine.proofs.runs.Programs.{opaque_source}
use Rattle.serving.proofs.laws.accepted_programs_are_opaque.Goals as goal

pub returns : goal.returns
returns c = λ p code threads steps accepted valid compiled few.
    opaque_source (effect code) (beginning code) (bounds p) (initial_memory p) (c.threads_leave_memories.ensures.first p)
    (subst (FitsCells (effect code)) (ap bounds_of compiled.globals) (c.valid_code_fits_its_cells.ensures code valid))
    (thread p) compiled.means threads few steps
