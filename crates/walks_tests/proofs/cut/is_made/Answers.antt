use Rattle.std.proofs.Common.{subst}
use Rattle.std.specs.Prelude.{IfSome}
use Rattle.walks.specs.Walks.{IsWalk}
use Rattle.walks_tests.proofs.cut.is_made.Goals as goal

pub ends_of-requires : goal.ends_of-requires
ends_of-requires g c = record { walk = (c.in_ok-code.code, subst (λ r. IfSome r (IsWalk c.in_ok-code.code)) c.in-Ok-Some.field-0-is c.in-Ok-Some.ensures) }

pub first_stuck-requires-clause-walk : goal.first_stuck-requires-clause-walk
first_stuck-requires-clause-walk g c = (c.in_ok-code.code, subst (λ r. IfSome r (IsWalk c.in_ok-code.code)) c.in-Ok-Some.field-0-is c.in-Ok-Some.ensures)

pub order_to-requires-clause-walk : goal.order_to-requires-clause-walk
order_to-requires-clause-walk g c = (c.in_ok-code.code, subst (λ r. IfSome r (IsWalk c.in_ok-code.code)) c.in-Ok-Some.field-0-is c.in-Ok-Some.ensures)
