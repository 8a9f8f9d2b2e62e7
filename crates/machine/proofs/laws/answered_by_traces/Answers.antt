use Rattle.machine.proofs.answers.Traces.{answered, traced}
use Rattle.machine.proofs.laws.answered_by_traces.Goals as goal

pub returns : goal.returns
returns C g = λ code init m0 threads. (traced code init m0 threads, answered code init m0 threads)
