use Rattle.std.proofs.Common.{ap, subst, ◌∙◌, map}
use Rattle.syntax.specs.Views.{item_of}
use Rattle.safety.specs.Links.{IsLeast}
use Rattle.safety.specs.Sets.{links_of, set_of}
use Rattle.safety.specs.inner.Rest.{rest_of}
use Rattle.safety.proofs.Unsafe.{tells_safe, tells_claims}
use Rattle.safety.proofs.Opening.{tells_outer}
use Rattle.safety.proofs.demands.fault_of.Goals as goal

pub returns : goal.returns
returns g c =
    let p = map item_of c.args.items.now in
    let not_safe = set_of c.in_ok-not_safe.not_safe in
    let outer = set_of c.in_ok-outer.outer in
    let claims = set_of c.in_ok-claims.claims in
    let least = subst (λ ls. IsLeast ls not_safe) (ap links_of c.as_slice.ensures ∙ c.in_ok-links.ensures) c.in_ok-not_safe.ensures in
    let opening = subst (λ ls. IsLeast ls outer) (ap links_of c.as_slice-2.ensures ∙ c.in_ok-openings.ensures) c.in_ok-outer.ensures in
    let claimed = subst (λ ls. IsLeast ls claims) (ap links_of c.as_slice-3.ensures ∙ c.in_ok-declared.ensures) c.in_ok-claims.ensures in
    (rest_of not_safe, outer, tells_safe p not_safe least, tells_outer p outer opening, c.in_ok-found.ensures p (tells_claims p claims claimed))
