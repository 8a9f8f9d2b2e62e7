use Rattle.std.proofs.Common.{◌≡◌, ◌∙◌}
use Rattle.report.specs.declared.outcome_list.WalkEnd.TheVariants.{Whole}
use Rattle.serving.proofs.Comparing.{expected_said, unexpected_shown}
use Rattle.serving.proofs.expected.tell_expected.Goals as goal

pub returns-in-Ok-None : goal.returns-in-Ok-None
returns-in-Ok-None g c =
    let same = rw c.in-Ok-None.field-0-is at c.in-Ok-None.ensures in
    expected_said (c.args.found.now.end ≡ Whole) c.args.list.now c.args.expected.now c.tell_same.result _ _ same c.tell_same.ensures

pub returns-in-Ok-Some : goal.returns-in-Ok-Some
returns-in-Ok-Some g c =
    let first = rw c.in-Ok-Some.field-0-is at c.in-Ok-Some.ensures in
    unexpected_shown (c.args.found.now.end ≡ Whole) c.args.list.now c.args.expected.now c.tell_unexpected.result _ _ first.0 c.as_slice.result.now first.1 (c.as_slice.ensures.value ∙ first.2) c.tell_unexpected.ensures
