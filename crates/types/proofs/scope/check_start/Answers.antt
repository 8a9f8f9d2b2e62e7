use Rattle.std.proofs.Common.{[], sym, subst}
use Rattle.types.specs.inner.Known.{known_in, AreDeclared}
use Rattle.types.proofs.Grown.{none_declared}
use Rattle.types.proofs.Starts.{start_declares, start_knows}
use Rattle.types.proofs.scope.check_start.Goals as goal

pub returns-in-Declare-clause-answer : goal.returns-in-Declare-clause-answer
returns-in-Declare-clause-answer g c =
    start_declares (known_in c.args.names.now) c.args.start.now c.in-Declare.one c.as_slice.result.now c.check_declarators.result c.in-Declare.is c.as_slice.ensures (c.check_declarators.ensures.answer [] (subst (λ n. AreDeclared n c.args.names.now []) (sym c.len-outer.ensures) (none_declared c.args.names.now)))

pub returns-in-Declare-clause-known : goal.returns-in-Declare-clause-known
returns-in-Declare-clause-known g c =
    start_knows (known_in c.args.names.now) (known_in c.check_declarators.new.names) c.args.start.now c.in-Declare.one c.as_slice.result.now c.check_declarators.result c.in-Declare.is c.as_slice.ensures c.check_declarators.ensures.known
