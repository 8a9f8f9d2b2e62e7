use Rattle.std.proofs.Common.{refl, map}
use Rattle.std.proofs.lemmas.List.{length-map}
use Rattle.bytecode.specs.Valid.{IsValidFunction, end_of}
use Rattle.bytecode.specs.Views.{code_of, function_of}
use Rattle.bytecode.proofs.Each.{has_item, one_more, among_all, denied, affirmed}
use Rattle.bytecode.proofs.LaidOut.{starts_at, ends_in_code}
use Rattle.bytecode.proofs.valid.are_valid_functions.Goals as goal

pub is_valid_function-requires-clause-starts : goal.is_valid_function-requires-clause-starts
is_valid_function-requires-clause-starts g c =
    rw c.end_of-behind.ensures (starts_at (code_of c.args.parts.now) (map function_of c.args.parts.now.functions) c.each.number (function_of c.index-functions-number.result) c.requires.laid_out.1 (has_item function_of c.args.parts.now.functions c.as_slice-functions.result.now c.each.number c.index-functions-number.result c.as_slice-functions.ensures c.index-functions-number.is c.each-test.true))

pub is_valid_function-requires-clause-ends : goal.is_valid_function-requires-clause-ends
is_valid_function-requires-clause-ends g c = rw c.end_of-behind.ensures (rw length-map at (ends_in_code (code_of c.args.parts.now) c.each.number c.requires.laid_out.1))

pub returns-then-not-branch : goal.returns-then-not-branch
returns-then-not-branch g c = denied c.in_ok-is_valid_function.field-0 _ _ (search) c.in_ok-is_valid_function.ensures (λ v. rw c.end_of-behind.ensures (v c.each.number (function_of c.index-functions-number.result) (has_item function_of c.args.parts.now.functions c.as_slice-functions.result.now c.each.number c.index-functions-number.result c.as_slice-functions.ensures c.index-functions-number.is c.each-test.true)))

pub each-preserved : goal.each-preserved
each-preserved g c = one_more (λ n f. IsValidFunction (code_of c.args.parts.now) f (end_of (code_of c.args.parts.now) n)) (map function_of c.args.parts.now.functions) c.each.number (function_of c.index-functions-number.result) (has_item function_of c.args.parts.now.functions c.as_slice-functions.result.now c.each.number c.index-functions-number.result c.as_slice-functions.ensures c.index-functions-number.is c.each-test.true) (rw c.end_of-behind.ensures at (affirmed c.in_ok-is_valid_function.field-0 _ (search) c.in_ok-is_valid_function.ensures)) c.each.invariant

pub returns : goal.returns
returns g c = (λ t n f e. c.each.invariant n f (among_all function_of c.args.parts.now.functions c.as_slice-functions.result.now n c.each.number f c.as_slice-functions.ensures c.each-test.false e) e, λ v. refl)
