use Rattle.std.proofs.lemmas.Result.{on_ok_weaker}
use Rattle.pages.proofs.Writing.{followed, written}
use Rattle.pages.proofs.data.put_body.Goals as goal

pub returns : goal.returns
returns g c =
    let cells = followed (written c.in_ok-key.ensures) c.in_ok-put_names.ensures in
    let all = followed (written c.in_ok-key-2.ensures) (written c.in_ok-boolean.ensures) in
    on_ok_weaker c.put_states.result (λ states. followed (followed cells all) (followed (written c.in_ok-key-3.ensures) states)) c.put_states.ensures
