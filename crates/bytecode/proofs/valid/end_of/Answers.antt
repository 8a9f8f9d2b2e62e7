use Rattle.std.proofs.Common.{◌+◌, ◌∙◌, ap, arith, length, map, sym, add-one}
use Rattle.std.proofs.lemmas.Bool.{ltb-true, ltb-false}
use Rattle.std.proofs.lemmas.List.{length-map}
use Rattle.bytecode.specs.Views.{code_of, function_of, instr_of}
use Rattle.bytecode.proofs.Each.{has_item}
use Rattle.bytecode.proofs.LaidOut.{end_there, end_last}
use Rattle.bytecode.proofs.valid.end_of.Goals as goal

pub returns-in-Some : goal.returns-in-Some
returns-in-Some g c = rw (← add-one) (end_there (code_of c.args.parts.now) (map function_of c.args.parts.now.functions) (c.args.number + 1) (function_of c.in-Some.next.now) (has_item function_of c.args.parts.now.functions c.as_slice.result.now (c.args.number + 1) c.in-Some.next.now c.as_slice.ensures c.in-Some.ensures.lookup.1 (ltb-true _ _ (sym c.in-Some.ensures.lookup.0))))

pub returns-in-None : goal.returns-in-None
returns-in-None g c =
    let parts = c.args.parts.now in
    let count = length-map parts.functions function_of in
    let size = length-map parts.instructions (instr_of parts.arguments) in
    let same = ap length c.as_slice.ensures in
    let past = ltb-false _ _ (sym c.in-None.ensures.lookup.0) in
    rw (← add-one) (c.len.ensures ∙ sym size ∙ end_last (code_of parts) (map function_of parts.functions) (c.args.number + 1) (omega (arith, count, same, past)))
