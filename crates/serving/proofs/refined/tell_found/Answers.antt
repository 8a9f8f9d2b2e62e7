use Rattle.std.proofs.Common.{map, sym, subst, length}
use Rattle.std.specs.Prelude.{All, Contains}
use Rattle.std.proofs.lemmas.List.{length-map}
use Rattle.report.specs.OutcomeList.{reports}
use Rattle.refinements.specs.ShownBy.{IsShownAmong}
use Rattle.report.specs.Views.{reported_of}
use Rattle.serving.proofs.Comparing.{prints_all, prints_beyond}
use Rattle.serving.proofs.refined.tell_found.Goals as goal

pub returns-in-Ok-Some : goal.returns-in-Ok-Some
returns-in-Ok-Some g c =
    let found = c.args.found.now in
    let others = c.args.others.now in
    let one = reported_of c.in-Ok-Some.one.now in
    let found_one = rw c.in-Ok-Some.field-0-is at c.in-Ok-Some.ensures in
    let among = subst (λ os. Contains (map reported_of os) one) c.as_slice.ensures.value found_one.0 in
    let none = subst (λ os. IsShownAmong (map reported_of os) one.shown → ⊥) c.as_slice-2.ensures.value found_one.1 in
    prints_beyond c.args.name.now c.args.threads found.end (map reported_of found.outcomes.items) (map reported_of found.stuck.items) others.end (map reported_of others.outcomes.items) c.tell_beyond.result _ _ (c.is_whole-2.ensures c.if-not-is_whole-2.false)
    one among none c.tell_beyond.ensures

pub returns-in-Ok-None : goal.returns-in-Ok-None
returns-in-Ok-None g c =
    let found = c.args.found.now in
    let others = c.args.others.now in
    let first = subst (λ os. All (IsShownAmong (map reported_of c.as_slice-2.result.now)) (reports (map reported_of os))) c.as_slice.ensures.value (rw c.in-Ok-None.field-0-is at c.in-Ok-None.ensures) in
    let each = subst (λ os. All (IsShownAmong (map reported_of os)) (reports (map reported_of found.outcomes.items))) c.as_slice-2.ensures.value first in
    prints_all c.args.name.now c.args.threads found.end (map reported_of found.outcomes.items) (map reported_of found.stuck.items) others.end (map reported_of others.outcomes.items) c.tell_refined.result _ _ (c.is_whole-2.ensures c.if-not-is_whole-2.false)
    (c.is_whole.ensures c.if-not-is_whole.false) each (length found.outcomes.items) (length others.outcomes.items) (sym (length-map found.outcomes.items reported_of)) (sym (length-map others.outcomes.items reported_of))
    c.tell_refined.ensures
