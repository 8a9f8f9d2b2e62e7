use Rattle.std.specs.Prelude.{flat_map}
use Rattle.std.specs.List.{range_with_len}
use Rattle.pages.specs.Content.{data_of}
use Rattle.pages.specs.Data.{Appends, state_list}
use Rattle.pages.proofs.data.put_states.Given as goal

-- the first states are written
abbrev pub invariant-states : goal.invariant-states
invariant-states g l =
    Appends l.initial.to l.to (flat_map (state_list (data_of l.page)) (range_with_len 0 l.state))
