use Rattle.std.proofs.Common.{◌⊎◌, subst}
use Rattle.std.specs.Prelude.{string_bytes}
use Rattle.serving.specs.Numbers.{IsUsedInSource}
use Rattle.serving.proofs.Numbering.{all_used, one_more_used}
use Rattle.serving.proofs.numbers.first_unused.Goals as goal

pub definitions-preserved : goal.definitions-preserved
definitions-preserved c =
    one_more_used c.args.bytes.now c.args.other.now c.args.definitions.now c.definitions.definition-index c.definition-item.result c.definitions-test.true c.definitions.invariant
    (subst (λ d. IsUsedInSource c.args.bytes.now (string_bytes d.name) ⊎ IsUsedInSource c.args.other.now (string_bytes d.name)) c.definition-item.is (rw c.as_str.ensures.value at (c.in_ok-is_used_in_either.ensures c.if-not-branch.false)))

pub returns : goal.returns
returns c none = all_used c.args.bytes.now c.args.other.now c.args.definitions.now c.definitions.definition-index c.definitions-test.false c.definitions.invariant
