use Rattle.std.proofs.Common.{◌≡◌, ◌++◌, map, take}
use Rattle.selection.specs.Conditions.{with_second_at}
use Rattle.lower_exprs.proofs.draft.lead_on.Given as goal

abbrev pub invariant-each : goal.invariant-each
invariant-each g l = l.drafts.items ≡ l.fn.drafts.items ++ map (with_second_at l.op l.next) (take l.one-index l.first)
