-- An opened file: the source, or another one.
use Rattle.std.specs.Prelude.{List, Option, Some, ℕ}
use Rattle.system.specs.declared.source.Opened.{Opened}
use Rattle.system.specs.declared.source.Opened.TheVariants.{Source, Other}

-- the bytes that are left to read
abbrev pub rest_of : {R : Type 0} → (R → Option (List ℕ)) → Opened R → Option (List ℕ)
rest_of rest (Source bytes) = Some bytes.now
rest_of rest (Other other) = rest other
