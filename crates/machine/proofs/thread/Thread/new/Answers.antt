use Rattle.std.proofs.Common.{false, refl, arith}
use Rattle.syntax.specs.declared.thread_end.Status.TheVariants.{Running}
use Rattle.machine.proofs.contexts.Calls.{new_thread_of}
use Rattle.machine.proofs.thread.Thread.new.Goals as goal

pub returns-clause-of : goal.returns-clause-of
returns-clause-of g c = new_thread_of c.args.code.now c.note_valid.ensures (record { configuration = _; core = c.new-core.result; trapping = false; text = _; status = Running }) c.args.number (omega arith) c.in_ok-frames.ensures c.new-core.ensures.attempt refl
