use Rattle.std.proofs.Common.{◌∙◌, [], codes, map, sym, ap}
use Rattle.syntax.specs.Views.{item_of}
use Rattle.syntax.specs.Types.{file_scope}
use Rattle.syntax.specs.Typing.{is_worker}
use Rattle.syntax.specs.Typing.{demand, AreTypedItems, AreDefined}
use Rattle.types.specs.inner.Unmet.{unmet_in}
use Rattle.types.proofs.Steps.{first_of_three, skip, stop_at, tell_skip, tell_stop, tell_single}
use Rattle.types.proofs.unit.check_program.Goals as goal

pub returns-in_err-found : goal.returns-in_err-found
returns-in_err-found g c =
    let p = map item_of c.args.items.now in
    let is = first_of_three (AreTypedItems [] p) (AreDefined p [] p) (demand 28 (record { start = c.args.end; end = c.args.end }) (is_worker (file_scope p (codes "worker")))) in
    tell_stop c.check_items.result _ c.in_err-found.field-0.0 _ _ _ is c.check_items.ensures.answer c.in_err-found.was c.from_residual.ensures

pub returns-in_err-check_defined : goal.returns-in_err-check_defined
returns-in_err-check_defined g c =
    let p = map item_of c.args.items.now in
    let is = first_of_three (AreTypedItems [] p) (AreDefined p [] p) (demand 28 (record { start = c.args.end; end = c.args.end }) (is_worker (file_scope p (codes "worker")))) in
    let rest = tell_skip c.check_items.result _ _ _ _ is c.check_items.ensures.answer c.in_ok-found.was in
    stop_at c.check_defined.result _ c.in_err-check_defined.field-0.0 _ _ _ rest c.check_defined.ensures c.in_err-check_defined.was c.from_residual-in_err-check_defined.ensures

pub returns-in_err-check_worker : goal.returns-in_err-check_worker
returns-in_err-check_worker g c =
    let p = map item_of c.args.items.now in
    let is = first_of_three (AreTypedItems [] p) (AreDefined p [] p) (demand 28 (record { start = c.args.end; end = c.args.end }) (is_worker (file_scope p (codes "worker")))) in
    let rest = tell_skip c.check_items.result _ _ _ _ is c.check_items.ensures.answer c.in_ok-found.was in
    let last = skip c.check_defined.result _ _ _ _ rest c.check_defined.ensures c.in_ok-check_defined.was in
    tell_single c.check_worker.result _ c.in_err-check_worker.field-0.0 _ (c.check_worker.ensures ∙ sym last) c.in_err-check_worker.was c.from_residual-in_err-check_worker.ensures

pub returns : goal.returns
returns g c =
    let p = map item_of c.args.items.now in
    let is = first_of_three (AreTypedItems [] p) (AreDefined p [] p) (demand 28 (record { start = c.args.end; end = c.args.end }) (is_worker (file_scope p (codes "worker")))) in
    let rest = tell_skip c.check_items.result _ _ _ _ is c.check_items.ensures.answer c.in_ok-found.was in
    let last = skip c.check_defined.result _ _ _ _ rest c.check_defined.ensures c.in_ok-check_defined.was in
    sym (ap unmet_in c.in_ok-check_worker.was) ∙ c.check_worker.ensures ∙ sym last
