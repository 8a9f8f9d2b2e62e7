use Rattle.std.proofs.lemmas.Result.{on_ok_weaker}
use Rattle.traces.proofs.Lines.{two_joined}
use Rattle.traces.proofs.trace.push_turn_text.Goals as goal

pub returns : goal.returns
returns g c = on_ok_weaker c.push_turn_words.result (λ last. two_joined _ _ _ _ _ c.in_ok-push_turn_columns.ensures last) c.push_turn_words.ensures
