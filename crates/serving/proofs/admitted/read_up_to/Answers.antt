use Rattle.serving.proofs.Taken.{taken_of}
use Rattle.serving.proofs.admitted.read_up_to.Goals as goal

pub returns : goal.returns
returns g c = taken_of g.Q.Read.remaining c.take.result _ c.args.report _ _ c.take.ensures.limit c.take.ensures.inner c.new-bytes.ensures.items c.in_ok-read_to_end.ensures.bytes
