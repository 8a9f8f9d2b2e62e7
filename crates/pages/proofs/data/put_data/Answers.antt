use Rattle.pages.proofs.Writing.{followed, then_token, written}
use Rattle.pages.proofs.data.put_data.Goals as goal

pub returns : goal.returns
returns g c =
    then_token c.end_object.result _ (followed (followed (followed (written c.in_ok-begin_object.ensures) c.in_ok-put_head.ensures) c.in_ok-put_body.ensures) c.in_ok-put_tables.ensures) c.end_object.ensures
