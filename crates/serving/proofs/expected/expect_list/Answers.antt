use Rattle.std.proofs.Common.{◌≡◌, refl}
use Rattle.report.specs.declared.outcome_list.WalkEnd.TheVariants.{Whole}
use Rattle.serving.specs.Expected.{SaysExpected, ShowsUnexpected}
use Rattle.serving.proofs.Verdicts.{either_known, either_untold}
use Rattle.serving.proofs.expected.expect_list.Goals as goal

pub returns-in-Ok : goal.returns-in-Ok
returns-in-Ok g c =
    let found = c.args.found.now in
    either_known (SaysExpected (λ t. (found.end ≡ Whole) × (t ≡ c.args.list.now))) (ShowsUnexpected (λ t. (found.end ≡ Whole) × (t ≡ c.args.list.now))) (g.Q.Read.remaining c.args.expected) c.in-Ok.expected.items c.as_slice.result.now c.tell_expected.result _ _ c.in-Ok.ensures c.as_slice.ensures.value c.tell_expected.ensures

pub returns-in-Err : goal.returns-in-Err
returns-in-Err g c =
    let found = c.args.found.now in
    either_untold (SaysExpected (λ t. (found.end ≡ Whole) × (t ≡ c.args.list.now))) (ShowsUnexpected (λ t. (found.end ≡ Whole) × (t ≡ c.args.list.now))) (g.Q.Read.remaining c.args.expected) c.not_read.result _ _ c.not_read.ensures.status refl
