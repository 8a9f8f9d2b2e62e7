use Rattle.std.proofs.Common.{subst}
use Rattle.std.specs.Prelude.{IfSome}
use Rattle.walks.specs.Walks.{IsWalk}
use Rattle.walks_tests.proofs.counted.is_so.Goals as goal

pub is_counted-requires : goal.is_counted-requires
is_counted-requires g c = (c.in_ok-code.code, subst (λ r. IfSome r (IsWalk c.in_ok-code.code)) c.in-Ok-Some.field-0-is c.in-Ok-Some.ensures)
