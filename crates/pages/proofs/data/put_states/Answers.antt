use Rattle.std.proofs.Common.{◌≡◌, ◌∙◌, ap, arith}
use Rattle.std.specs.Prelude.{flat_map}
use Rattle.std.specs.List.{range_with_len}
use Rattle.pages.specs.Content.{data_of}
use Rattle.pages.specs.Data.{state_count, state_list}
use Rattle.pages.proofs.Writing.{followed, next_numbered, same_tokens, then_token, written}
use Rattle.pages.proofs.data.put_states.Goals as goal

pub states-preserved : goal.states-preserved
states-preserved g c =
    next_numbered (state_list (data_of c.args.page.now)) c.states.state c.states.invariant c.in_ok-put_state.ensures

pub returns : goal.returns
returns g c =
    let f = state_list (data_of c.args.page.now) in
    let end = c.states-test.false in
    let most = c.states.auto.state-end in
    let whole : c.states.state ≡ c.count_of-count.result = omega (arith, end, most) in
    let count = whole ∙ c.count_of-count.ensures in
    let states = same_tokens _ (flat_map f (range_with_len 0 (state_count (data_of c.args.page.now)))) (ap (λ n. flat_map f (range_with_len 0 n)) count) c.states.invariant in
    then_token c.end_array.result _ (followed (written c.in_ok-begin_array.ensures) states) c.end_array.ensures
