use Rattle.std.proofs.Common.{subst}
use Rattle.std.specs.Prelude.{IfSome}
use Rattle.walks.specs.Walks.{IsWalk}
use Rattle.walks_tests.proofs.fair.is_so.Goals as goal

pub decided-requires : goal.decided-requires
decided-requires g c = (c.in-Some-code_of.code, subst (λ r. IfSome r (IsWalk c.in-Some-code_of.code)) c.in-Ok-Some.field-0-is c.in-Ok-Some.ensures)
