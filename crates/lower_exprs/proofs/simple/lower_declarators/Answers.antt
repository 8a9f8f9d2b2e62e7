use Rattle.std.proofs.Common.{ap}
use Rattle.selection.specs.Simples.{Written}
use Rattle.lower_exprs.specs.Lists.{lists_of}
use Rattle.lower_exprs.specs.Views.{scope_in}
use Rattle.program_tables.specs.Views.{program_in}
use Rattle.lower_exprs.proofs.Adding.{stops}
use Rattle.lower_exprs.proofs.Declared.{next_scope, last_scope, next_declared, declared_first_within, no_more_declared}
use Rattle.lower_exprs.proofs.simple.lower_declarators.Goals as goal

pub each-preserved : goal.each-preserved
each-preserved g c =
    let k = c.in_ok-to.ensures in
    record {
      scope = next_scope c.args.ty c.args.all.now c.each.one-index (scope_in c.each.scope) c.one-item.result _ _ c.each-test.true c.one-item.is k.scope c.each.invariant.scope;
      code = next_declared (program_in c.args.names.now) c.args.ty c.args.all.now c.each.one-index c.each.to (scope_in c.each.scope) (lists_of c.each.lists) c.each.code.items _ c.one-item.result c.each-test.true c.one-item.is c.each.invariant.code k.scope k.code;
    }

pub returns-clause-scope : goal.returns-clause-scope
returns-clause-scope g c =
    last_scope c.args.ty c.args.all.now c.each.one-index (scope_in c.each.scope) _ c.each-test.false c.each.invariant.scope

pub returns-clause-code : goal.returns-clause-code
returns-clause-code g c =
    let all = no_more_declared (program_in c.args.names.now) c.args.ty c.args.all.now c.each.one-index c.each.to (scope_in c.each.scope) (lists_of c.each.lists) c.each.code.items _ c.each-test.false c.each.invariant.code in
    record { code = ap (λ (w : Written). w.code) all; lists = ap (λ (w : Written). w.lists) all; end = ap (λ (w : Written). w.to) all; fails = tt }

pub returns-in_err-to-clause-code : goal.returns-in_err-to-clause-code
returns-in_err-to-clause-code g c =
    stops c.lower_declarator.ensures.code c.in_err-to.was c.from_residual.ensures (declared_first_within (program_in c.args.names.now) c.args.ty c.args.all.now c.each.one-index c.each.to (scope_in c.each.scope) (lists_of c.each.lists) c.each.code.items _ c.one-item.result c.each-test.true c.one-item.is c.each.invariant.code)
