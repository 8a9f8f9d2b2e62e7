use Rattle.std.proofs.Common.{◌≡◌, ◌++◌, map, take}
use Rattle.selection.specs.declared.draft.Draft.TheVariants as draft
use Rattle.lower_exprs.proofs.draft.keep.Given as goal

abbrev pub invariant-each : goal.invariant-each
invariant-each g l = l.drafts.items ≡ l.fn.drafts.items ++ map draft.Whole (take l.one-index l.code)
