use Rattle.std.proofs.Common.{subst}
use Rattle.report.specs.Pieces.{bytes_of}
use Rattle.serving.specs.Written.{AppendsBeginning}
use Rattle.serving.proofs.Parts.{all_pieces, pieces_part}
use Rattle.serving.proofs.print.write_pieces.Goals as goal

pub returns-in_err-write_text-clause-part : goal.returns-in_err-write_text-clause-part
returns-in_err-write_text-clause-part g c =
    let part = subst (λ b. AppendsBeginning (g.W.Write.contents c.pieces.out) (g.W.Write.contents c.write_text.new.out) b) c.bytes.ensures c.write_text.ensures.part in
    pieces_part bytes_of (g.W.Write.contents c.args.out.now) (g.W.Write.contents c.pieces.out) (g.W.Write.contents c.write_text.new.out) c.args.pieces.now c.pieces.piece-index c.piece-item.result c.piece-item.is c.pieces-test.true c.pieces.invariant part

pub returns-clause-part : goal.returns-clause-part
returns-clause-part g c = all_pieces bytes_of (g.W.Write.contents c.args.out.now) (g.W.Write.contents c.pieces.out) c.args.pieces.now c.pieces.piece-index c.pieces-test.false c.pieces.invariant
