-- The response to a request, over files that were read.
use Rattle.std.specs.Prelude.{◌≡◌, ◌⊎◌, ℕ, List, Option}
use Rattle.command.specs.declared.request.Asked.{Asked}
use Rattle.serving.specs.Files.{Contents}
use Rattle.serving.specs.Numbers.{ServesAsked}
use Rattle.system.specs.Kept.{AreKnown}

-- A request is answered, with numbers in place of names if `-D` is given, and each file that it names was read. Or else
-- nothing is printed: a file could not be read, or a defined name occurs in no source.
pub record IsServed (asked : Asked) (contents : Contents) (status : ℕ) (old new : Option (List ℕ)) : Type 0 where
  pub known : AreKnown asked.request contents ⊎ ((status ≡ 2) ⊎ (status ≡ 4)) × (new ≡ old)
  pub served : ServesAsked asked contents status old new
