-- Why a step is not made, by number.
use Rattle.std.specs.Prelude.{ℕ}
use Rattle.norec_core.specs.declared.step.Stop.{Stop}
use Rattle.norec_core.specs.declared.step.Stop.TheVariants.{OutOfMemory, SequenceUsedUp}

abbrev pub number_of : Stop → ℕ
number_of OutOfMemory = 0
number_of SequenceUsedUp = 70
