use Rattle.std.proofs.Common.{subst}
use Rattle.std.specs.Prelude.{IfSome}
use Rattle.walks.specs.Walks.{IsWalk}
use Rattle.walks_tests.proofs.shortest.weight_of.Goals as goal

pub are_shortest-requires : goal.are_shortest-requires
are_shortest-requires g c = (c.in_ok-code.code, subst (λ r. IfSome r (IsWalk c.in_ok-code.code)) c.in-Ok-Some.field-0-is c.in-Ok-Some.ensures)

pub weight-requires : goal.weight-requires
weight-requires g c = (c.in_ok-code.code, subst (λ r. IfSome r (IsWalk c.in_ok-code.code)) c.in-Ok-Some.field-0-is c.in-Ok-Some.ensures)
