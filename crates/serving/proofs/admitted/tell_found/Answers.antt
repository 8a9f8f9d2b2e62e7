use Rattle.std.proofs.Common.{◌≡◌, true, false, map, subst}
use Rattle.std.specs.Prelude.{Contains}
use Rattle.refinements.specs.Admitted.{SaysAdmitted, ShowsUnadmitted}
use Rattle.report.specs.Views.{reported_of}
use Rattle.serving.proofs.Admitting.{admission_told}
use Rattle.serving.proofs.admitted.tell_found.Goals as goal

pub returns-in-Ok : goal.returns-in-Ok
returns-in-Ok g c =
    let found = c.args.found.now in
    let told = c.in-Ok.told in
    let so = subst (λ os. told.is_admitted ≡ true → SaysAdmitted (Contains (map reported_of os)) c.args.file.now c.args.threads c.args.report.now told.text.items) c.as_slice.ensures.value c.in-Ok.ensures.so in
    let no = subst (λ os. told.is_admitted ≡ false → ShowsUnadmitted (Contains (map reported_of os)) c.args.file.now c.args.threads c.args.report.now told.text.items) c.as_slice.ensures.value c.in-Ok.ensures.not_so in
    admission_told found.end (map reported_of found.outcomes.items) c.args.file.now c.args.threads c.args.report.now told.is_admitted told.text.items so no c.tell_admitted-status.result _ _ c.tell_admitted-status.ensures
