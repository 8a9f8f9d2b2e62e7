use Rattle.std.proofs.lemmas.Result.{on_ok_weaker}
use Rattle.pages.proofs.Writing.{followed, written}
use Rattle.pages.proofs.data.put_head.Goals as goal

pub returns : goal.returns
returns g c =
    on_ok_weaker c.put_numbers.result (λ order.
    followed c.in_ok-put_text.ensures (followed c.in_ok-put_text-2.ensures (followed c.in_ok-put_text-3.ensures (followed c.in_ok-put_number.ensures (followed (written c.in_ok-key.ensures) order))))) c.put_numbers.ensures
