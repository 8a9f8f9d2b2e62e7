-- The part of a thread in some world.
use Rattle.std.specs.Prelude.{ℕ, List}
use Rattle.bytecode.specs.Code.{Configuration}
use Rattle.bytecode.specs.Initial.{initial_of}
use Rattle.machine.specs.Answered.{Heard}
use Rattle.machine.specs.inner.Answered.{IsPartOf}
use Rattle.machine.specs.Worlds.{Part}
use Rattle.bytecode.specs.Code.{effect}
use Rattle.bytecode.specs.Beginning.{beginning}
use Rattle.shared_words.specs.Setup.{Setup}

-- in some world that a list of steps leads to, none of which stops, the thread with this number has this part and these
-- responses
abbrev pub IsPart : Setup → ℕ → Part Configuration → List Heard → Type 0
IsPart key number p hs = IsPartOf (effect key.code) (beginning key.code) (initial_of key.code) key.threads number p hs
