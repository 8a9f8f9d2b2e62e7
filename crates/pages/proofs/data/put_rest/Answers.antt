use Rattle.std.proofs.Common.{ap}
use Rattle.std.specs.Prelude.{codes}
use Rattle.pages.specs.Data.{number_member, text_member}
use Rattle.pages.proofs.Writing.{followed, then_token, with_number, with_text, written}
use Rattle.pages.proofs.data.put_rest.Goals as goal

pub returns : goal.returns
returns g c =
    let line = with_number (number_member (codes "line")) _ _ (ap (λ p. p.0) c.unwrap_or-line.ensures) c.in_ok-put_number.ensures in
    let column = with_number (number_member (codes "column")) _ _ (ap (λ p. p.1) c.unwrap_or-line.ensures) c.in_ok-put_number-2.ensures in
    let words = with_text (text_member (codes "words")) _ _ c.as_str.ensures c.in_ok-put_text.ensures in
    let end = with_text (text_member (codes "end")) _ _ c.as_str-2.ensures c.in_ok-put_text-2.ensures in
    let printed = with_text (text_member (codes "printed")) _ _ c.as_str-3.ensures c.in_ok-put_text-3.ensures in
    then_token c.end_object.result _ (followed (written c.in_ok-begin_object.ensures) (followed line (followed column (followed words (followed end printed))))) c.end_object.ensures
