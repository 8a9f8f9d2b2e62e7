use Rattle.std.proofs.Common.{ap, subst, ◌∙◌, map}
use Rattle.syntax.specs.Views.{item_of}
use Rattle.safety.specs.Links.{IsLeast}
use Rattle.safety.specs.Sets.{links_of, set_of}
use Rattle.separation.proofs.Bare.{tells_touching}
use Rattle.separation.proofs.demands.fault_of.Goals as goal

pub returns : goal.returns
returns g c =
    let p = map item_of c.args.items.now in
    let touching = set_of c.in_ok-touching.touching in
    let least = subst (λ ls. IsLeast ls touching) (ap links_of c.as_slice.ensures ∙ c.in_ok-links.ensures) c.in_ok-touching.ensures in
    (touching, tells_touching p touching least, c.in_ok-found.ensures)
