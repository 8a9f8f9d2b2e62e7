-- Files, of which some are sources with numbers in place of names.
use Rattle.std.specs.Prelude.{◌⊎◌, ℕ, List, Option, Some, Contains, string_bytes, if◌then◌else◌}
use Rattle.std.specs.Str.{bytes_eq}
use Rattle.parameters.specs.declared.definition.Definition.{Definition}
use Rattle.serving.specs.Files.{Contents}
use Rattle.serving.specs.Numbers.{IsUsedInSource}
use Rattle.serving.specs.declared.numbers.Opened.{Opened}
use Rattle.serving.specs.declared.numbers.Opened.TheVariants.{Source, Other}

-- what is left to be read of a file
abbrev pub rest_of : {R : Type 0} → (R → Option (List ℕ)) → Opened R → Option (List ℕ)
rest_of remaining (Source bytes) = Some bytes.now
rest_of remaining (Other file) = remaining file

-- the contents of files, with those of two sources
abbrev pub contents_with : (file bytes other other_bytes : List ℕ) → Contents → Contents
contents_with file bytes other other_bytes contents name =
    if bytes_eq name file then Some bytes else (if bytes_eq name other then Some other_bytes else contents name)

-- the names of these definitions are used in one of two sources
abbrev pub AreUsedIn : (bytes other : List ℕ) → List Definition → Type 0
AreUsedIn bytes other ds = (d : Definition) → Contains ds d →
    IsUsedInSource bytes (string_bytes d.name) ⊎ IsUsedInSource other (string_bytes d.name)
