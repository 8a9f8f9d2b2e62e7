use Rattle.std.proofs.Common.{refl, ap, Some}
use Rattle.std.specs.Prelude.{option_map}
use Rattle.atomic_code.proofs.Answering.{cell_written, write_inside}
use Rattle.atomic_code.specs.inner.Making.{thread_of, transaction_of}
use Rattle.atomic_code.proofs.context.AtomicContext.write.Goals as goal

pub set_word-requires : goal.set_word-requires
set_word-requires g c =
    let k = thread_of {A = g.row.A.Denot} c.args.self.now in
    cell_written c.args.code.now c.requires.valid k c.requires.running c.requires.runs (transaction_of c.in-Some.open) (ap (option_map (transaction_of {A = g.row.A.Denot})) c.in-Some.is) c.args.cell c.args.word _ c.requires.writes

pub returns-in-Some : goal.returns-in-Some
returns-in-Some g c =
    let k = thread_of {A = g.row.A.Denot} c.args.self.now in
    let there = ap (option_map (transaction_of {A = g.row.A.Denot})) c.in-Some.is in
    λ m. write_inside c.args.code.now c.requires.valid k c.requires.running c.requires.runs m (transaction_of c.in-Some.open) there _ c.args.cell c.args.word _ c.requires.writes c.go_on.ensures.configuration (ap Some c.set_word.ensures) refl refl
