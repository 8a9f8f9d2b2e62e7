use Rattle.std.proofs.lemmas.Result.{on_ok_weaker}
use Rattle.std.proofs.Common.{ap}
use Rattle.pages.specs.Data.{memory_list, number_list}
use Rattle.pages.proofs.Writing.{followed, same_tokens}
use Rattle.pages.proofs.data.put_row.Goals as goal

pub returns : goal.returns
returns g c =
    on_ok_weaker c.put_words.result (λ rests.
    followed (same_tokens _ _ (ap (memory_list c.args.types.now) c.memory_of.ensures) c.in_ok-put_memory.ensures) (same_tokens _ _ (ap number_list c.rests_of.ensures) rests)) c.put_words.ensures
