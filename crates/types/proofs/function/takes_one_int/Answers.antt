use Rattle.std.proofs.Common.{◌∷◌, [], map, sym, arith}
use Rattle.std.proofs.lemmas.List.{length-map}
use Rattle.syntax.specs.Tree.{Int}
use Rattle.types.proofs.Types.{differ}
use Rattle.types.proofs.function.takes_one_int.Goals as goal

pub returns-then-all-ne1 : goal.returns-then-all-ne1
returns-then-all-ne1 g c = sym (differ (map (λ q. q.ty) c.args.all.now) (Int ∷ []) (λ e. c.if-all-ne1.true (let h = length-map c.args.all.now (λ q. q.ty) in omega (arith, e, h))))
