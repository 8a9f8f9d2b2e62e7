use Rattle.std.proofs.Common.{map, arith}
use Rattle.bytecode.specs.Views.{code_of, function_of}
use Rattle.bytecode.proofs.Each.{has_item}
use Rattle.bytecode.proofs.LaidOut.{starts_at, starts_more}
use Rattle.bytecode.proofs.valid.are_laid_out.Goals as goal

pub returns-then-functions-number : goal.returns-then-functions-number
returns-then-functions-number g c = (λ t. cc t, λ h. absurd (let s = starts_at (code_of c.args.parts.now) (map function_of c.args.parts.now.functions) c.each.number (function_of c.index-functions-number.result) h.1 (has_item function_of c.args.parts.now.functions c.as_slice-functions.result.now c.each.number c.index-functions-number.result c.as_slice-functions.ensures c.index-functions-number.is c.each-test.true) in let e = c.end_of.ensures in let l = rw (← c.index-functions-number.is) at c.if-functions-number.true in omega (arith, s, e, l)))

pub each-preserved : goal.each-preserved
each-preserved g c = starts_more (code_of c.args.parts.now) (map function_of c.args.parts.now.functions) c.each.number (function_of c.index-functions-number.result) _ (has_item function_of c.args.parts.now.functions c.as_slice-functions.result.now c.each.number c.index-functions-number.result c.as_slice-functions.ensures c.index-functions-number.is c.each-test.true) (rw (c.end_of.ensures, ← c.index-functions-number.is) at c.if-functions-number.false) c.each.invariant
