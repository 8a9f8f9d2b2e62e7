use Rattle.std.proofs.Common.{◌++◌}
use Rattle.bytecode.specs.Sequential.{meaning}
use Rattle.machine.proofs.runs.Programs.{serializable_source}
use Rattle.machine.proofs.runs.Serializable.{serializable}
use Rattle.machine.proofs.runs.Strict.{strictly_serializable}
use Rattle.machine.proofs.laws.strictly_serializable.Goals as goal

pub returns-clause-code : goal.returns-clause-code
returns-clause-code g c code init bounds m0 threads ts us fits is_memory =
    strictly_serializable code init bounds m0 is_memory fits (meaning code init) threads ts us (serializable code init bounds m0 is_memory fits threads (ts ++ us))

pub returns-clause-programs : goal.returns-clause-programs
returns-clause-programs g c code init program bounds m0 threads ts us fits is_memory means few =
    strictly_serializable code init bounds m0 is_memory fits program threads ts us (serializable_source code init bounds m0 is_memory fits program means threads few (ts ++ us))
