use Rattle.std.proofs.Common.{length, map, ◌≤◌, arith}
use Rattle.std.proofs.lemmas.List.{length-map}
use Rattle.meaning.specs.inner.SourceThread.{local_in}
use Rattle.meaning.proofs.Lookup.{with_word-map, unwritten}
use Rattle.meaning.proofs.source_thread.assign_local.Goals as goal

pub returns-then-i-locals : goal.returns-then-i-locals
returns-then-i-locals c = with_word-map c.args.locals.now c.args.i _ c.args.word

pub returns-else-i-locals : goal.returns-else-i-locals
returns-else-i-locals c = let h : length (map local_in c.args.locals.now) ≤ c.args.i = omega (arith, length-map c.args.locals.now local_in) in unwritten (map local_in c.args.locals.now) c.args.i c.args.word h
