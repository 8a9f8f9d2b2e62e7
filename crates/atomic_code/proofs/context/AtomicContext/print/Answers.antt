use Rattle.std.proofs.Common.{refl, rules}
use Rattle.bytecode.specs.Code.{onward}
use Rattle.frames.specs.Doings.{piece_of}
use Rattle.atomic_code.specs.inner.Making.{MayPrint}
use Rattle.atomic_code.proofs.Answering.{goes_printing}
use Rattle.atomic_code.specs.inner.Making.{thread_of}
use Rattle.atomic_code.proofs.context.AtomicContext.print.Goals as goal

pub returns-clause-ok : goal.returns-clause-ok
returns-clause-ok g c =
    let k = thread_of {A = g.row.A.Denot} c.args.self.now in
    let may : MayPrint k.open_in = search rules in
    λ m. goes_printing c.args.code.now c.requires.valid k c.requires.running c.requires.runs m _ (piece_of c.args.code.now c.args.doing) (onward k.configuration) c.requires.prints may c.go_on.ensures.configuration refl c.in_ok-push_piece.ensures.bytes refl
