use Rattle.std.proofs.Common.{◌++◌, ◌∷◌, [], ◌≤◌, map, ap, sym, ◌∙◌, subst, append-nil, length}
use Rattle.std.specs.List.{AllByRecursion}
use Rattle.syntax.specs.Names.{shared_by}
use Rattle.syntax.specs.Views.{item_of, function_of, global_of, stmts_of}
use Rattle.bytecode.specs.Code.{FunctionCode}
use Rattle.bytecode.specs.Views.{function_of as code_function}
use Rattle.selection.specs.Programs.{FunctionCodes, all_made, body_written, function_code}
use Rattle.lower_exprs.specs.Lists.{lists_of}
use Rattle.lower.specs.inner.Parts.{made_in, made_behind, made_once, IsOfDefinition, IsOfItem}
use Rattle.program_tables.specs.Views.{program_in}
use Rattle.lower.proofs.Bodies.{definition_made, prototype_made, nothing_behind, few_more}
use Rattle.lower.proofs.Faulty.{definition_fault, handed_on}
use Rattle.lower.proofs.generate.lower_item.Goals as goal

pub returns-in_ok-lower_definition-in-Some-clause-made : goal.returns-in_ok-lower_definition-in-Some-clause-made
returns-in_ok-lower_definition-in-Some-clause-made g c =
    let p = program_in c.args.names.now in
    let f = function_of c.in-Function.f in
    let from = c.args.making.now.to in
    let l = lists_of c.args.making.now.lists in
    let done = made_in c.args.making.now in
    let w = body_written p f (stmts_of c.in-Some.body) from l in
    c.in_ok-lower_definition-in-Some.ensures.made
    ∙ ap (λ b. made_behind done (made_once f from (body_written p f (stmts_of b) from l))) c.as_slice.ensures
    ∙ ap (λ is. made_behind done (record (made_once f from w) { code = is })) (sym (append-nil w.code))
    ∙ sym (ap (made_behind done) (definition_made p c.args.item.now c.in-Function.f c.in-Some.body from l c.in-Function.is c.in-Some.is))

pub returns-in-None-clause-made : goal.returns-in-None-clause-made
returns-in-None-clause-made g c =
    let p = program_in c.args.names.now in
    let done = made_in c.args.making.now in
    sym (nothing_behind done) ∙ sym (ap (made_behind done) (prototype_made p c.args.item.now c.in-Function.f done.to done.lists c.in-Function.is c.in-None.is))

pub returns-in-Ok-clause-made : goal.returns-in-Ok-clause-made
returns-in-Ok-clause-made g c =
    let p = program_in c.args.names.now in
    let done = made_in c.args.making.now in
    sym (nothing_behind done) ∙ sym (ap (λ i. made_behind done (all_made p (item_of i ∷ []) done.to done.lists)) c.in-Globals.is)

pub returns-in_ok-lower_definition-in-Some-clause-globals : goal.returns-in_ok-lower_definition-in-Some-clause-globals
returns-in_ok-lower_definition-in-Some-clause-globals g c =
    let done = map global_of c.args.making.now.globals.items in
    ap (λ gs. map global_of gs) c.in_ok-lower_definition-in-Some.ensures.globals
    ∙ sym (append-nil done)
    ∙ sym (ap (λ i. done ++ shared_by (item_of i)) c.in-Function.is)

pub returns-in_ok-lower_definition-in-Some-clause-few : goal.returns-in_ok-lower_definition-in-Some-clause-few
returns-in_ok-lower_definition-in-Some-clause-few g c =
    let p = program_in c.args.names.now in
    let f = c.in-Function.f in
    let from = c.args.making.now.to in
    let l = lists_of c.args.making.now.lists in
    subst (AllByRecursion (λ (h : FunctionCode). h.registers ≤ 65535)) (sym (ap (λ (m : FunctionCodes). m.functions) c.in_ok-lower_definition-in-Some.ensures.made))
    (few_more (map code_function c.args.making.now.functions.items) (function_code (function_of f) from (body_written p (function_of f) (stmts_of c.as_slice.result.now) from l)) c.requires.few c.in_ok-lower_definition-in-Some.ensures.registers)

pub returns-in_err-lower_definition-in-Some-clause-fault : goal.returns-in_err-lower_definition-in-Some-clause-fault
returns-in_err-lower_definition-in-Some-clause-fault g c =
    let p = program_in c.args.names.now in
    let f = c.in-Function.f in
    let from = c.args.making.now.to in
    let l = lists_of c.args.making.now.lists in
    let done = c.args.making.now.code.items in
    let w = body_written p (function_of f) (stmts_of c.as_slice.result.now) from l in
    let m = all_made p (item_of c.args.item.now ∷ []) from l in
    handed_on c.lower_definition.result c.from_residual.result c.in_err-lower_definition-in-Some.field-0.0
    (IsOfDefinition (function_of f) w.lists.registers (length (done ++ w.code))) (IsOfItem (item_of c.args.item.now) m.functions (length (done ++ m.code)))
    c.lower_definition.ensures.fault c.in_err-lower_definition-in-Some.was c.from_residual.ensures
    (λ e. definition_fault p c.args.item.now f c.in-Some.body c.as_slice.result.now from l done e c.in-Function.is c.in-Some.is c.as_slice.ensures)
