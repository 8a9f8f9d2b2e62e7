use Rattle.std.proofs.Common.{◌≡◌, ap, sym, ◌∙◌, subst, OnOk, map}
use Rattle.syntax.specs.Views.{declarator_of, simple_of, start_of}
use Rattle.lower_spec.specs.Statements.{locals_of_start, with_declared}
use Rattle.selection.specs.Simples.{declared_written, simple_written, start_written}
use Rattle.lower_exprs.specs.Lists.{lists_of}
use Rattle.lower_exprs.specs.Views.{scope_in}
use Rattle.program_tables.specs.Views.{program_in}
use Rattle.lower_exprs.specs.Fragments.{of_written}
use Rattle.lower_exprs.proofs.Adding.{same}
use Rattle.lower_exprs.proofs.simple.lower_start.Goals as goal

pub returns-in-Declare-clause-scope : goal.returns-in-Declare-clause-scope
returns-in-Declare-clause-scope g c =
    let scope = (scope_in c.args.scope.now) in
    subst (λ s. OnOk c.lower_declarators.result (scope_in c.lower_declarators.new.scope ≡ locals_of_start s scope)) (sym (ap start_of c.in-Declare.is))
    (subst (λ ds. OnOk c.lower_declarators.result (scope_in c.lower_declarators.new.scope ≡ with_declared c.in-Declare.d.ty (map declarator_of ds) scope)) c.as_slice.ensures c.lower_declarators.ensures.scope)

pub returns-in-Declare-clause-code : goal.returns-in-Declare-clause-code
returns-in-Declare-clause-code g c =
    let declares = ap (λ ds. of_written (declared_written (program_in c.args.names.now) c.in-Declare.d.ty (map declarator_of ds) (scope_in c.args.scope.now) c.args.from (lists_of c.args.lists.now))) c.as_slice.ensures in
    same (declares ∙ ap (λ s. of_written (start_written (program_in c.args.names.now) s (scope_in c.args.scope.now) c.args.from (lists_of c.args.lists.now))) (sym (ap start_of c.in-Declare.is))) c.lower_declarators.ensures.code

pub returns-in-Do-clause-code : goal.returns-in-Do-clause-code
returns-in-Do-clause-code g c =
    let does = ap (λ n. of_written (simple_written (program_in c.args.names.now) (scope_in c.args.scope.now) (simple_of c.in-Do.s) c.args.from n (lists_of c.args.lists.now))) c.len-free.ensures in
    same (does ∙ ap (λ s. of_written (start_written (program_in c.args.names.now) s (scope_in c.args.scope.now) c.args.from (lists_of c.args.lists.now))) (sym (ap start_of c.in-Do.is))) c.lower_simple.ensures
