use Rattle.std.proofs.Common.{arith}
use Rattle.atomic_code.proofs.Threads.{thread_at_first}
use Rattle.atomic_code.proofs.atomic.AtomicThread.new.Goals as goal

pub returns-clause-of : goal.returns-clause-of
returns-clause-of g c = thread_at_first c.args.code.now c.note_valid.ensures c.in_ok-frames.frames.configuration _ c.args.number (omega arith) c.in_ok-frames.ensures
