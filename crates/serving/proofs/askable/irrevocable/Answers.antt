use Rattle.std.proofs.Common.{◌∙◌, ap, map, subst}
use Rattle.syntax.specs.Views.{item_of, program_of}
use Rattle.safety.specs.Links.{IsLeast}
use Rattle.safety.specs.Sets.{links_of, set_of}
use Rattle.safety.specs.SiteLinks.{links_by}
use Rattle.safety.specs.inner.SiteLinks.{no_attribute}
use Rattle.safety.specs.inner.UnsafeLinks.{unsafe_at}
use Rattle.serving.proofs.Asking.{tells_irrevocable}
use Rattle.serving.proofs.askable.irrevocable.Goals as goal

pub returns : goal.returns
returns g c =
    let set = set_of c.in_ok-set.set in
    let links = ap links_of c.as_slice-2.ensures ∙ c.in_ok-links.ensures ∙ ap (λ xs. links_by no_attribute unsafe_at (map item_of xs)) c.as_slice.ensures in
    tells_irrevocable (program_of c.args.unit.now) set (subst (λ ls. IsLeast ls set) links c.in_ok-set.ensures)
