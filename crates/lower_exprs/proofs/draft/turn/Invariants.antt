use Rattle.std.proofs.Common.{◌≡◌, ◌++◌, map, take}
use Rattle.selection.specs.Conditions.{opposite_draft}
use Rattle.lower_exprs.proofs.draft.turn.Given as goal

abbrev pub invariant-each : goal.invariant-each
invariant-each g l = l.drafts.items ≡ l.fn.drafts.items ++ map opposite_draft (take l.one-index l.first)
