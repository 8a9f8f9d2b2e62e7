-- The program's own refusals, and those of clap.
use Rattle.std.specs.Prelude.{◌≡◌, ◌≢◌, ◌⊎◌, ℕ, List, Option, Some}
use Rattle.clap.specs.Words.{Row, Text, kind_of}
use Rattle.clap.specs.declared.error.Error.{Error}
use Rattle.clap.specs.declared.error.kind.ErrorKind.TheVariants.{DisplayHelp, DisplayVersion}
use Rattle.clap.specs.declared.error.kind.ErrorKind.TheVariants as kind
use Rattle.command.specs.declared.request.Asked.{Asked}
use Rattle.command.specs.declared.request.Job.{Job}
use Rattle.command.specs.declared.request.Request.{Request}
use Rattle.command.specs.declared.request.Task.{Task}
use Rattle.command.specs.declared.request.UsageFault.{UsageFault}
use Rattle.command.specs.declared.request.UsageFault.TheVariants.{OutOfMemory, Help, Wrong}
use Rattle.command.specs.Tests.{IsJob}
use Rattle.command.specs.Asked.{IsCommanded, IsNumberInRange, IsRequest, IsTask}

-- no help: words that the command line accepts, and that are refused because this holds, or an allocation failure
abbrev pub IsOwn : Type 0 → UsageFault → Type 0
IsOwn IsSo OutOfMemory = Unit {0}
IsOwn IsSo (Help text) = ⊥
IsOwn IsSo (Wrong text) = IsSo

-- no number in its range is given for an argument, and the default is not in it
abbrev pub IsOutOfRange : List Row → Text → (default least most : ℕ) → Type 0
IsOutOfRange given id default least most = (n : ℕ) → IsNumberInRange given id default least most n → ⊥

-- the values of its arguments make no task of this command, and no request
abbrev pub AreNoTask : Text → List Row → Type 0
AreNoTask name given = (task : Task) → IsTask name given task → ⊥

abbrev pub AreNoRequest : Text → List Row → Type 0
AreNoRequest name given = (request : Request) → IsRequest name given request → ⊥

-- the meaning of a fault for an error of clap
abbrev pub SaysError : Error → UsageFault → Type 0
SaysError e OutOfMemory = Unit {0}
SaysError e (Help text) = (kind_of e ≡ DisplayHelp) ⊎ (kind_of e ≡ DisplayVersion)
SaysError e (Wrong text) = (kind_of e ≢ kind.OutOfMemory) × (kind_of e ≢ DisplayHelp) × (kind_of e ≢ DisplayVersion)

abbrev pub AskNoMore : Text → List Row → Type 0
AskNoMore name given = (asked : Asked) → IsCommanded name given asked → ⊥

-- the words name a command, and its arguments ask this
pub record HasGiven (met : Option (Text × List Row)) (asked : Asked) : Type 0 where
  pub name : Text
  pub given : List Row
  pub command : met ≡ Some (name, given)
  pub made : IsCommanded name given asked

-- the words name a command that requests this job with its arguments
pub record HasJob (met : Option (Text × List Row)) (job : Job) : Type 0 where
  pub name : Text
  pub given : List Row
  pub command : met ≡ Some (name, given)
  pub made : IsJob name given job
