-- A report in pieces: lines of its own, and between them the output of threads, which is not copied.
use Rattle.std.specs.Prelude.{ℕ, List, flat_map}
use Rattle.report.specs.Printed as plain
use Rattle.report.specs.declared.pieces.ThreadSeen.{ThreadSeen}
use Rattle.report.specs.declared.pieces.Piece.{Piece}
use Rattle.report.specs.declared.pieces.Piece.TheVariants.{Lines, Text}

-- a thread whose text is stored elsewhere
abbrev pub seen_of : ThreadSeen → plain.ThreadShown
seen_of thread = record { end = thread.end; text = thread.text.now }

module _ {A : Type 0} where
  abbrev pub bytes_of : Piece A → List ℕ
  bytes_of (Lines bytes) = bytes
  bytes_of (Text bytes) = bytes.now

  -- pieces, one after another
  abbrev pub joined : List (Piece A) → List ℕ
  joined = flat_map bytes_of
