use Rattle.std.proofs.Common.{◌≡◌, map, drop}
use Rattle.syntax.specs.Typing.{same_types}
use Rattle.types.proofs.function.same_parameters.Given as goal

abbrev pub invariant-each : goal.invariant-each
invariant-each g l = same_types (map (λ q. q.ty) (drop l.i l.a)) (map (λ q. q.ty) (drop l.i l.b)) ≡ same_types (map (λ q. q.ty) l.a) (map (λ q. q.ty) l.b)
