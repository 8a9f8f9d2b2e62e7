use Rattle.std.proofs.Common.{ap₂}
use Rattle.pages.specs.Data.{row_list}
use Rattle.pages.proofs.Writing.{followed, same_tokens, then_token, written}
use Rattle.pages.proofs.data.put_state.Goals as goal

pub returns : goal.returns
returns g c =
    let row = same_tokens _ _ (ap₂ (λ types words. row_list types c.args.page.now.cells words) c.requires c.row_of-row.ensures) c.in_ok-put_row.ensures in
    then_token c.end_array.result _ (followed (written c.in_ok-begin_array.ensures) (followed row c.in_ok-put_turns.ensures)) c.end_array.ensures
