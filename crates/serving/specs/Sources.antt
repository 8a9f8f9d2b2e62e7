-- The content of a file, as a source.
use Rattle.std.specs.Prelude.{◌≡◌, ◌<◌, ℕ, List, length, string_bytes, IsUtf8}
use Rattle.lex.specs.declared.lexer.TheConstants.{MOST_BYTES}
use Rattle.serving.specs.declared.files.SourceText.{SourceText}
use Rattle.serving.specs.declared.files.SourceText.TheVariants.{NotText, Text, TooLong}

-- a text has these bytes; a file that is not text is not UTF-8; one that is too long has more bytes than a source may
abbrev pub IsTextOf : {A : Type 0} → List ℕ → SourceText A → Type 0
IsTextOf bytes (Text text) = string_bytes text ≡ bytes
IsTextOf bytes NotText = IsUtf8 bytes → ⊥
IsTextOf bytes TooLong = MOST_BYTES < length bytes
