use Rattle.std.proofs.Common.{sym, ◌∙◌, ◌+◌, string_bytes}
use Rattle.std.proofs.lemmas.Bool.{ltb-true, ltb-false}
use Rattle.bytecode.specs.Views.{function_of}
use Rattle.bytecode.proofs.Lines.{next_function, end_next, end_last}
use Rattle.bytecode.proofs.list.push_functions.Goals as goal
use Rattle.bytecode.proofs.list.push_functions.Goals.{in-Some, in-None}

pub each-preserved : goal.each-preserved
each-preserved g c = next_function function_of c.args.code.now c.functions-functions.result.now c.each.number c.match-get.end c.index-functions-number.result (string_bytes c.each.text) _ _ c.index-functions-number.is c.each-test.true (elim c.match-get.branch [
  | in-Some w ↦ w.end-is ∙ end_next function_of c.args.code.now c.functions-functions.result.now (c.each.number + 1) w.in-Some.g.now (ltb-true _ _ (sym w.in-Some.ensures.lookup.0)) w.in-Some.ensures.lookup.1
  | in-None w ↦ w.end-is ∙ w.len-end.ensures ∙ end_last function_of c.args.code.now c.functions-functions.result.now (c.each.number + 1) (ltb-false _ _ (sym w.in-None.ensures.lookup.0))
]) c.each.invariant c.in_ok-push_function.ensures
