use Rattle.std.proofs.Common.{ap, ◌∙◌, arith, OnOk, Result, Ok, Err}
use Rattle.syntax.specs.Views.{declarator_of}
use Rattle.lower_spec.specs.Statements.{with_local}
use Rattle.selection.specs.Lists.{with_register}
use Rattle.lower_exprs.specs.Lists.{lists_of}
use Rattle.lower_exprs.specs.Views.{scope_in}
use Rattle.program_tables.specs.Views.{program_in}
use Rattle.lower_exprs.proofs.Declared.{zero_within, declarator_there}
use Rattle.lower_exprs.proofs.Adding.{needed_stops}
use Rattle.lower_exprs.proofs.simple.lower_local.Goals as goal

holds : {X Y P : Type 0} (r : Result X Y) → P → OnOk r P
holds (Ok x) p = p
holds (Err e) p = tt

pub returns-clause-scope : goal.returns-clause-scope
returns-clause-scope g c =
    holds c.lower_first.result (c.in_ok-declare.ensures ∙ ap (λ x. with_local (scope_in c.args.scope.now) x c.args.ty) c.as_str.ensures)

pub returns-clause-code : goal.returns-clause-code
returns-clause-code g c =
    let at = c.len.ensures in
    declarator_there (program_in c.args.names.now) c.args.ty (declarator_of c.args.d.now) (scope_in c.args.scope.now) c.args.from (lists_of c.args.lists.now) (c.in_ok-register.ensures.register ∙ at) (c.in_ok-declare.ensures ∙ ap (λ x. with_local (scope_in c.args.scope.now) x c.args.ty) c.as_str.ensures) c.in_ok-put.ensures (c.in_ok-register.ensures.lists ∙ ap (λ i. with_register i (lists_of c.args.lists.now)) at) c.in_ok-next.ensures c.lower_first.ensures

pub returns-in_err-register-clause-code : goal.returns-in_err-register-clause-code
returns-in_err-register-clause-code g c =
    let within = zero_within (program_in c.args.names.now) c.args.ty (declarator_of c.args.d.now) (scope_in c.args.scope.now) c.args.from (lists_of c.args.lists.now) in
    let at = ap (λ i. (with_register i (lists_of c.args.lists.now)).registers) c.len.ensures in
    needed_stops c.take.ensures.fails c.in_err-register.was c.from_residual.ensures (omega (arith, at, within))
