use Rattle.std.proofs.Common.{◌≡◌, ◌++◌, map, take}
use Rattle.selection.specs.Conditions.{instruction_of_draft}
use Rattle.lower_exprs.proofs.draft.complete.Given as goal

abbrev pub invariant-each : goal.invariant-each
invariant-each g l = l.code.items ≡ l.fn.code.items ++ map (instruction_of_draft l.true_exit l.false_exit) (take l.one-index l.drafts)
