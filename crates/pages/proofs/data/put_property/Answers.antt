use Rattle.std.specs.Prelude.{codes}
use Rattle.pages.specs.Data.{text_member}
use Rattle.pages.proofs.Writing.{followed, then_token, with_text, written}
use Rattle.pages.proofs.data.put_property.Goals as goal

pub returns : goal.returns
returns g c =
    let name = with_text (text_member (codes "name")) _ _ c.as_str.ensures c.in_ok-put_text.ensures in
    let values = with_text (text_member (codes "values")) _ _ c.as_str-2.ensures c.in_ok-put_text-2.ensures in
    then_token c.end_object.result _ (followed (written c.in_ok-begin_object.ensures) (followed name values)) c.end_object.ensures
