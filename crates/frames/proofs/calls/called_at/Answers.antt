use Rattle.std.proofs.Common.{◌≡◌, ◌<◌, ◌+◌, ◌-◌, ◌∙◌, length, refl, sym, ap, arith}
use Rattle.std.proofs.lemmas.Bool.{ltb-true, ltb-false}
use Rattle.bytecode.specs.Flat.{count_at, instruction_from, operand}
use Rattle.bytecode.specs.Views.{function_of}
use Rattle.frames.specs.Stack.{callee_of}
use Rattle.frames.proofs.CallWords.{head_inside, result_inside, whole_at, call_count, none_called, call_at}
use Rattle.frames.proofs.Telling.{found_item, no_item, no_callee}
use Rattle.frames.proofs.calls.called_at.Goals as goal

pub bounds-words-w : goal.bounds-words-w
bounds-words-w g c = head_inside c.args.code.now c.flat.result.0.now c.flat.result.1.now c.args.place c.in-Some.first.now c.flat.ensures.decodes c.flat.ensures.flat (ltb-true _ _ (sym c.in-Some.ensures.lookup.0)) c.in-Some.ensures.lookup.1

pub returns-then-head-ne-CALL-clause-none : goal.returns-then-head-ne-CALL-clause-none
returns-then-head-ne-CALL-clause-none g c = none_called c.args.code.now c.flat.result.0.now c.flat.result.1.now c.args.place c.in-Some.first.now c.flat.ensures.decodes c.flat.ensures.flat (ltb-true _ _ (sym c.in-Some.ensures.lookup.0)) c.in-Some.ensures.lookup.1 c.if-head-ne-CALL.true

pub bounds-words-w-in-Some : goal.bounds-words-w-in-Some
bounds-words-w-in-Some g c =
    let h = result_inside c.args.code.now c.flat.result.0.now c.flat.result.1.now c.args.place c.in-Some.first.now c.flat.ensures.decodes c.flat.ensures.flat (ltb-true _ _ (sym c.in-Some.ensures.lookup.0)) c.in-Some.ensures.lookup.1 c.if-head-ne-CALL.false in
    omega (arith, h)

pub bounds-words-w-in-Some-get : goal.bounds-words-w-in-Some-get
bounds-words-w-in-Some-get g c = result_inside c.args.code.now c.flat.result.0.now c.flat.result.1.now c.args.place c.in-Some.first.now c.flat.ensures.decodes c.flat.ensures.flat (ltb-true _ _ (sym c.in-Some.ensures.lookup.0)) c.in-Some.ensures.lookup.1 c.if-head-ne-CALL.false

pub slice_bounds-result-count : goal.slice_bounds-result-count
slice_bounds-result-count g c =
    let whole = whole_at c.args.code.now c.flat.result.0.now c.flat.result.1.now c.args.place c.in-Some.first.now c.flat.ensures.decodes c.flat.ensures.flat (ltb-true _ _ (sym c.in-Some.ensures.lookup.0)) c.in-Some.ensures.lookup.1 in
    let few = call_count c.flat.result.0.now c.in-Some.first.now whole c.if-head-ne-CALL.false in
    omega (arith, few)

pub slice_bounds-result-start : goal.slice_bounds-result-start
slice_bounds-result-start g c = slice_bounds-result-count g c

pub slice_bounds-result-end : goal.slice_bounds-result-end
slice_bounds-result-end g c =
    let whole = whole_at c.args.code.now c.flat.result.0.now c.flat.result.1.now c.args.place c.in-Some.first.now c.flat.ensures.decodes c.flat.ensures.flat (ltb-true _ _ (sym c.in-Some.ensures.lookup.0)) c.in-Some.ensures.lookup.1 in
    let h = whole.there in
    omega (arith, h)

pub returns-in-Some-get-clause-some : goal.returns-in-Some-get-clause-some
returns-in-Some-get-clause-some g c = (
  operand c.flat.result.0.now c.in-Some.first.now 1,
  call_at c.args.code.now c.flat.result.0.now c.flat.result.1.now c.args.place c.in-Some.first.now c.flat.ensures.decodes c.flat.ensures.flat (ltb-true _ _ (sym c.in-Some.ensures.lookup.0)) c.in-Some.ensures.lookup.1 c.if-head-ne-CALL.false _ refl,
  found_item function_of c.args.code.now.functions c.functions.result.now (operand c.flat.result.0.now c.in-Some.first.now 1) c.in-Some-get.callee.now (sym c.functions.ensures) (ltb-true _ _ (sym c.in-Some-get.ensures.lookup.0)) c.in-Some-get.ensures.lookup.1,
)

pub returns-in-None-get-clause-none : goal.returns-in-None-get-clause-none
returns-in-None-get-clause-none g c = no_callee c.args.code.now _ (operand c.flat.result.0.now c.in-Some.first.now 1) (operand c.flat.result.0.now c.in-Some.first.now 2) _
    (call_at c.args.code.now c.flat.result.0.now c.flat.result.1.now c.args.place c.in-Some.first.now c.flat.ensures.decodes c.flat.ensures.flat (ltb-true _ _ (sym c.in-Some.ensures.lookup.0)) c.in-Some.ensures.lookup.1 c.if-head-ne-CALL.false _ refl)
    (no_item function_of c.args.code.now.functions c.functions.result.now (operand c.flat.result.0.now c.in-Some.first.now 1) (sym c.functions.ensures) (ltb-false _ _ (sym c.in-None-get.ensures.lookup.0)))

pub returns-in-None-clause-none : goal.returns-in-None-clause-none
returns-in-None-clause-none g c = ap (callee_of c.args.code.now) (no_item (instruction_from c.flat.result.0.now) c.args.code.now.instructions c.flat.result.1.now c.args.place (sym c.flat.ensures.decodes) (ltb-false _ _ (sym c.in-None.ensures.lookup.0)))
