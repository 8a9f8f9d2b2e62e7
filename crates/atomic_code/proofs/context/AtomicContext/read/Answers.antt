use Rattle.std.proofs.Common.{refl, ap}
use Rattle.std.specs.Prelude.{option_map}
use Rattle.atomic_code.proofs.Answering.{cell_read, read_inside}
use Rattle.atomic_code.specs.inner.Making.{thread_of, transaction_of}
use Rattle.atomic_code.proofs.context.AtomicContext.read.Goals as goal

pub word_in-word-requires : goal.word_in-word-requires
word_in-word-requires g c =
    let k = thread_of {A = g.row.A.Denot} c.args.self.now in
    cell_read c.args.code.now c.requires.valid k c.requires.running c.requires.runs (transaction_of c.in-Some.open) (ap (option_map (transaction_of {A = g.row.A.Denot})) c.in-Some.is) c.args.cell _ c.requires.reads

pub returns-in-Some : goal.returns-in-Some
returns-in-Some g c =
    let k = thread_of {A = g.row.A.Denot} c.args.self.now in
    let there = ap (option_map (transaction_of {A = g.row.A.Denot})) c.in-Some.is in
    λ m. read_inside c.args.code.now c.requires.valid k c.requires.running c.requires.runs m (transaction_of c.in-Some.open) there _ c.args.cell c.word_in-word.result _ c.requires.reads c.word_in-word.ensures c.set.ensures.configuration there refl refl
