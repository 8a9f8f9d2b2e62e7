use Rattle.std.proofs.lemmas.Result.{on_ok_weaker}
use Rattle.std.proofs.Common.{ap}
use Rattle.pages.specs.Data.{number_list, target_list}
use Rattle.pages.proofs.Writing.{followed, same_tokens}
use Rattle.pages.proofs.data.put_turns.Goals as goal

pub returns : goal.returns
returns g c =
    on_ok_weaker c.put_numbers.result (λ turns.
    followed (same_tokens _ _ (ap target_list c.numbers_of.ensures) c.in_ok-put_targets.ensures) (same_tokens _ _ (ap number_list c.numbers_of-2.ensures) turns)) c.put_numbers.ensures
