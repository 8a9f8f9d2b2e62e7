use Rattle.std.proofs.lemmas.Result.{on_ok_weaker}
use Rattle.pages.proofs.Writing.{followed, written}
use Rattle.pages.proofs.data.put_tables.Goals as goal

pub returns : goal.returns
returns g c =
    let rests = followed (written c.in_ok-key.ensures) c.in_ok-put_rests.ensures in
    let touched = followed (written c.in_ok-key-2.ensures) c.in_ok-put_touched.ensures in
    on_ok_weaker c.put_properties.result (λ properties. followed (followed rests touched) (followed (written c.in_ok-key-3.ensures) properties)) c.put_properties.ensures
