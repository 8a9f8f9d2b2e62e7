use Rattle.std.proofs.lemmas.Option.{slice_get_read, slice_get_past}
use Rattle.std.proofs.lemmas.Bool.{ltb-true, ltb-false}
use Rattle.std.proofs.Common.{refl}
use Rattle.std.proofs.Common.{sym}
use Rattle.bytecode.specs.Views.{function_of}
use Rattle.bytecode.proofs.Callees.{callee_there, callee_not}
use Rattle.bytecode.proofs.written.takes.Goals as goal

pub returns-in-Some : goal.returns-in-Some
returns-in-Some g c = callee_there function_of c.args.parts.now.functions c.args.g c.args.count c.in-Some.callee.now (slice_get_read c.args.parts.now.functions _ c.args.g c.in-Some.callee.now refl (ltb-true _ _ (sym (rw c.as_slice.ensures at c.in-Some.ensures.lookup.0))) (rw c.as_slice.ensures at c.in-Some.ensures.lookup.1))

pub returns-in-None : goal.returns-in-None
returns-in-None g c = callee_not function_of c.args.parts.now.functions c.args.g c.args.count (slice_get_past c.args.parts.now.functions c.args.g (ltb-false _ _ (sym (rw c.as_slice.ensures at c.in-None.ensures.lookup.0))))
