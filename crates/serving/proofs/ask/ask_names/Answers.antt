use Rattle.std.proofs.Common.{◌++◌, false, map, refl, subst, true}
use Rattle.syntax.specs.Views.{program_of}
use Rattle.report.specs.PropertyViews.{property_of}
use Rattle.report.specs.Views.{reported_of}
use Rattle.serving.specs.Properties.{AreFoundOf, asked_each}
use Rattle.serving.proofs.Answering.{always_unaskable, both_askable, last_unaskable, not_unusable, prints_so, refused_prints, these_so}
use Rattle.serving.proofs.Asking.{none_of}
use Rattle.serving.proofs.ask.ask_names.Goals as goal

pub returns-in-Some-clause-prints : goal.returns-in-Some-clause-prints
returns-in-Some-clause-prints g c = refused_prints _ c.in-Some.status _ _ c.in-Some.ensures.status refl

pub returns-in-Some-refuse_names-clause-prints : goal.returns-in-Some-refuse_names-clause-prints
returns-in-Some-refuse_names-clause-prints g c = refused_prints _ c.in-Some-refuse_names.status _ _ c.in-Some-refuse_names.ensures.status refl

pub returns-in-Some-clause-unaskable : goal.returns-in-Some-clause-unaskable
returns-in-Some-clause-unaskable g c = λ two.
    always_unaskable (program_of c.args.compiled.now.accepted.safe.typed.unit) (map (λ n. n.now) c.args.always.now) (map (λ n. n.now) c.args.last.now) (c.in-Some.ensures.unaskable two)

pub returns-in-Some-refuse_names-clause-unaskable : goal.returns-in-Some-refuse_names-clause-unaskable
returns-in-Some-refuse_names-clause-unaskable g c = λ two.
    last_unaskable (program_of c.args.compiled.now.accepted.safe.typed.unit) (map (λ n. n.now) c.args.always.now) (map (λ n. n.now) c.args.last.now) (c.in-Some-refuse_names.ensures.unaskable two)

pub returns-in-Ok-clause-prints : goal.returns-in-Ok-clause-prints
returns-in-Ok-clause-prints g c =
    let found = c.in-Ok.found in
    let always = none_of c.refuse_names.result c.in_default.is c.refuse_names.ensures.none in
    let last = none_of c.refuse_names-2.result c.in_default-refuse_names.is c.refuse_names-2.ensures.none in
    let p = program_of c.args.compiled.now.accepted.safe.typed.unit in
    let names = asked_each false (map (λ n. n.now) c.args.always.now) ++ asked_each true (map (λ n. n.now) c.args.last.now) in
    let askable = both_askable p (map (λ n. n.now) c.args.always.now) (map (λ n. n.now) c.args.last.now) always last in
    let are = subst (λ s. AreFoundOf p c.args.threads s names found.end (map property_of found.properties.items) (map reported_of found.stuck.items)) c.extent_of.ensures c.in-Ok.ensures.found in
    prints_so _ _ _ (these_so found.end (map property_of found.properties.items) (map reported_of found.stuck.items) _ (askable, are)) c.print_found-status.result _ _ c.print_found-status.ensures.prints

pub returns-in-Err-clause-prints : goal.returns-in-Err-clause-prints
returns-in-Err-clause-prints g c = refused_prints _ c.refuse_order.result _ _ c.refuse_order.ensures.status refl

pub returns-in-Err-clause-unaskable : goal.returns-in-Err-clause-unaskable
returns-in-Err-clause-unaskable g c = λ two. absurd (not_unusable c.args.threads c.in-Err.fault c.refuse_order.result c.in-Err.ensures.err c.refuse_order.ensures.memory c.refuse_order.ensures.threads two)
