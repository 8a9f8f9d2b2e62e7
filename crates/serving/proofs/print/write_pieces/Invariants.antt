use Rattle.std.proofs.Common.{take}
use Rattle.std.specs.Io.KnownBytes.{Appends}
use Rattle.report.specs.Pieces.{joined}
use Rattle.serving.proofs.print.write_pieces.Given as goal

-- this many pieces are written
abbrev pub invariant-pieces : goal.invariant-pieces
invariant-pieces g l = Appends (g.W.Write.contents l.initial.out) (g.W.Write.contents l.out) (joined (take l.piece-index l.pieces))
